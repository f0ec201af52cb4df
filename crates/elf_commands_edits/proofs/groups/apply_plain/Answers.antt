use Rattle.std.proofs.Common.{◌≡◌, ◌∷◌, [], List, subst}
use Rattle.std.specs.Prelude.{Ok}
use Rattle.arwen_elf.specs.Taken.{edits_model}
use Rattle.elf_edits.specs.Batch.{run}
use Rattle.elf_edits.specs.EditModel.{edit_model}
use Rattle.elf_edits.specs.declared.edit.ElfEdit.{ElfEdit}
use Rattle.elf_commands_edits.proofs.groups.apply_plain.Goals as goal

pub returns-in-Ok-clause-shows : goal.returns-in-Ok-clause-shows
returns-in-Ok-clause-shows c =
    let old = c.args.elf.now.inner in
    let new = c.apply.new.self.inner in
    let Runs : List ElfEdit → Type 0 = λ l. run (edits_model l) old ≡ Ok new in
    let runs = subst Runs c.from_ref.ensures.value c.in-Ok.ensures.takes.0 in
    c.batches_are_their_edits.ensures.shows (edit_model c.args.edit.now ∷ []) old new runs
