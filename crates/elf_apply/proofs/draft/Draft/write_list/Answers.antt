-- A list that was made is noted where the edit wrote something.
use Rattle.std.proofs.Common.{ap, sym, subst, ◌∙◌}
use Rattle.elf_edits.specs.EditModel.{edit_model}
use Rattle.elf_edits.specs.Cause.{facts_of}
use Rattle.elf_edits.specs.Edit.{edited_entries, touches_entries}
use Rattle.elf_edits.proofs.ForCallers.{is_free}
use Rattle.elf_apply.specs.declared.draft.Draft.{Draft}
use Rattle.elf_apply.specs.Drafted.{Writes}
use Rattle.elf_apply.proofs.DraftLaws.{list_written}
use Rattle.elf_apply.proofs.draft.Draft.write_list.Goals as goal

pub returns : goal.returns
returns c =
    subst (λ (d : Draft). Writes (edit_model c.args.edit.now) c.args.builder.now c.args.self.now d) (sym c.note_list.ensures)
    (list_written (edit_model c.args.edit.now) c.args.builder.now c.args.self.now c.in_ok-made.made c.requires.list c.requires.no_symbols c.requires.no_more (is_free (edit_model c.args.edit.now) (facts_of c.args.builder.now) c.requires.free) c.requires.listed c.requires.draft
    (λ machine. c.in_ok-made.ensures.list machine ∙ ap (edited_entries machine (edit_model c.args.edit.now)) c.list.ensures)
    (λ machine. c.in_ok-made.ensures.touched machine ∙ ap (touches_entries machine (edit_model c.args.edit.now)) c.list.ensures))
