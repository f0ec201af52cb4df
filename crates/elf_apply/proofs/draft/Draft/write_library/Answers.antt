-- The list and the needed versions that were made are noted where the edit wrote something.
use Rattle.std.proofs.Common.{◌∙◌, ◌≡◌, List, ℕ, ap, map, subst, sym}
use Rattle.elf_image.specs.ImageModel.{entry_model}
use Rattle.elf_edits.specs.Cause.{facts_of, first_cause}
use Rattle.elf_edits.specs.Edit.{Edit, ReplaceLibrary, edited_entries, touches_entries}
use Rattle.elf_edits.specs.EditModel.{edit_model, pairs_model}
use Rattle.elf_edits.proofs.ForCallers.{is_free}
use Rattle.elf_image.specs.Versions.{VersionNeeds}
use Rattle.elf_apply.specs.declared.draft.Draft.{Draft}
use Rattle.elf_apply.specs.Drafted.{AreNeedsAfter, Writes, with_list, with_needs}
use Rattle.elf_apply.proofs.NeedLaws.{library_written}
use Rattle.elf_apply.proofs.draft.Draft.write_library.Goals as goal

pub returns : goal.returns
returns c =
    let pairs : List (List ℕ × List ℕ) = pairs_model c.args.pairs.now in
    let same : edit_model c.args.edit.now ≡ ReplaceLibrary pairs = c.requires.edit in
    let free = is_free (ReplaceLibrary pairs) (facts_of c.args.builder.now) (ap (λ (e : Edit). first_cause e (facts_of c.args.builder.now)) (sym same) ∙ c.requires.free) in
    subst (λ (d : Draft). Writes (edit_model c.args.edit.now) c.args.builder.now c.args.self.now d) (sym (c.note_needs.ensures ∙ ap (with_needs c.in_ok-needs.needs) c.note_list.ensures))
    (subst (λ (e : Edit). Writes e c.args.builder.now c.args.self.now (with_needs c.in_ok-needs.needs (with_list c.in_ok-made.made c.args.self.now))) (sym same)
    (library_written pairs c.args.builder.now c.args.self.now c.in_ok-made.made c.in_ok-needs.needs free c.requires.listed c.requires.draft
    (λ machine. c.in_ok-made.ensures.list machine ∙ ap (λ (e : Edit). edited_entries machine e (map entry_model c.list.result.now)) same ∙ ap (edited_entries machine (ReplaceLibrary pairs)) c.list.ensures)
    (λ machine. c.in_ok-made.ensures.touched machine ∙ ap (λ (e : Edit). touches_entries machine e (map entry_model c.list.result.now)) same ∙ ap (touches_entries machine (ReplaceLibrary pairs)) c.list.ensures)
    (subst (λ (l : List VersionNeeds). AreNeedsAfter pairs l c.in_ok-needs.needs) c.needs.ensures c.in_ok-needs.ensures)))
