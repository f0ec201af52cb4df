-- No library was dropped; or the set has those that were, and that no entry needs.
use Rattle.std.proofs.Common.{◌≡◌, Bool, List, map, filter, not, ap, ◌∙◌, sym, Bor}
use Rattle.std.specs.Prelude.{◌&&◌}
use Rattle.std.specs.HashSet.{keys}
use Rattle.std.proofs.lemmas.Result.{IfOk-weaker}
use Rattle.elf_edits.specs.Entries.{needed_names}
use Rattle.elf_edits.specs.Texts.{is_among}
use Rattle.elf_edits.specs.Changes.{has_name}
use Rattle.elf_image.specs.ImageModel.{needs_model}
use Rattle.elf_layout_plan.specs.Staying.{unmarked_needs}
use Rattle.elf_notes.specs.Notes.{Name, needed_of}
use Rattle.elf_notes.proofs.NameSteps.{by_set, none_dropped}
use Rattle.elf_notes.proofs.notes.old_needs_of.Goals as goal

pub returns-then-is_empty : goal.returns-then-is_empty
returns-then-is_empty c =
    ap (λ (l : List (Bor Name)). map (λ n. n.now) l) c.new.ensures.items
    ∙ none_dropped c.args.names.now c.args.edited.now (sym c.is_empty.ensures ∙ c.if-is_empty.true)

pub returns : goal.returns
returns c =
    let names : List Name = map (λ n. n.now) c.args.names.now in
    let needed : List Name = needed_of c.args.edited.now in
    let is_old : Name → Bool = λ name. is_among names name && not (is_among needed name) in
    let needs_are : map needs_model c.deref-2.result.now ≡ c.args.edited.now.needs = ap (map needs_model) c.deref-2.ensures.value ∙ c.versions.ensures.needs in
    IfOk-weaker c.kept_needs.result _ _ (λ needs is.
    is ∙ ap (λ l. filter (has_name (keys c.take_out.new.set)) (map (λ n. n.file) (unmarked_needs c.in_ok-staying.staying.marks l))) needs_are
    ∙ ap (filter (has_name (keys c.take_out.new.set))) c.in_ok-staying.ensures
    ∙ by_set (keys c.take_out.new.set) is_old _ (λ name.
    c.take_out.ensures name
    ∙ ap (λ b. b && not (is_among (map (λ n. n.now) c.deref.result.now) name)) (c.in_ok-old.ensures name)
    ∙ ap (λ l. is_among names name && not (is_among l name)) (ap (λ (l : List (Bor Name)). map (λ n. n.now) l) c.deref.ensures.value ∙ c.in_ok-needed.ensures ∙ ap needed_names c.entries_of.ensures))) c.kept_needs.ensures
