-- Both lists of names are joined.
use Rattle.std.proofs.Common.{◌≡◌, ◌∙◌, ◌++◌, ap, filter, map, List, Bor}
use Rattle.std.proofs.lemmas.Result.{IfOk-weaker}
use Rattle.elf_edits.specs.Edit.{Edit}
use Rattle.elf_edits.specs.EditModel.{edit_model}
use Rattle.elf_edits.specs.Texts.{is_among}
use Rattle.elf_notes.specs.Notes.{Name, asked, entries_asked, libraries_asked}
use Rattle.elf_notes.proofs.findings.dropped_by.Goals as goal

pub returns : goal.returns
returns c =
    let named : List (Bor Name) → List Name = map (λ n. n.now) in
    let edits : List Edit = map edit_model c.args.edits.now in
    let of_entries : named c.deref.result.now ≡ entries_asked edits = ap named c.deref.ensures.value ∙ c.in_ok-of_entries.ensures in
    let of_libraries : named c.deref-2.result.now ≡ libraries_asked edits = ap named c.deref-2.ensures.value ∙ c.in_ok-of_libraries.ensures in
    let all : named c.deref-3.result.now ≡ asked edits =
    ap named c.deref-3.ensures.value ∙ c.in_ok-looked_for.ensures
    ∙ ap (λ l. l ++ named c.deref-2.result.now) of_entries ∙ ap (λ l. entries_asked edits ++ l) of_libraries in
    let known : named c.deref-4.result.now ≡ named c.args.needed.now ++ named c.args.put.now = ap named c.deref-4.ensures.value ∙ c.in_ok-known.ensures in
    IfOk-weaker c.needed_among.result _ _ (λ names is.
    is ∙ ap (λ l. filter (is_among l) (named c.deref-3.result.now)) known ∙ ap (filter (is_among (named c.args.needed.now ++ named c.args.put.now))) all) c.needed_among.ensures
