use Rattle.std.proofs.Common.{List, map}
use Rattle.std.proofs.lemmas.Result.{IfErr-weaker, IfOk-weaker}
use Rattle.elf_commands_edits.specs.Groups.{GroupEdit, group_model}
use Rattle.elf_commands.proofs.ElfOutcomes.{edited_by, made_of_edits, tells_no_bytes}
use Rattle.elf_commands.proofs.elf.typed.edit_each.Goals as goal

pub returns-in-Ok-clause-made : goal.returns-in-Ok-clause-made
returns-in-Ok-clause-made c =
    let edits : List GroupEdit = map group_model c.args.edits.now in
    IfOk-weaker c.changed_bytes.result _ _ (λ answer changed.
    edited_by c.lists_are_their_edits.ensures edits c.args.bytes.now c.in_ok-elf.elf.inner _ c.in_ok-elf.ensures.reads.0 c.in-Ok.ensures.made answer c.in_ok-elf.ensures.shows changed) c.changed_bytes.ensures.ok

pub returns-in-Ok-clause-err : goal.returns-in-Ok-clause-err
returns-in-Ok-clause-err c =
    let edits : List GroupEdit = map group_model c.args.edits.now in
    let makes = made_of_edits c.lists_are_their_edits.ensures edits c.args.bytes.now c.in_ok-elf.elf.inner _ c.in_ok-elf.ensures.reads.0 c.in-Ok.ensures.made in
    IfErr-weaker c.changed_bytes.result _ _ (λ e told. tells_no_bytes edits c.args.bytes.now _ e makes told) c.changed_bytes.ensures.err
