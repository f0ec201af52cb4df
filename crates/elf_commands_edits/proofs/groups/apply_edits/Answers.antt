-- The batch of a list of plain edits is this list.
use Rattle.std.proofs.Common.{List, subst}
use Rattle.std.specs.Prelude.{IfErr, OnOk}
use Rattle.elf_commands_edits.specs.Groups.{GroupEdit, MakeInTurn, TellsInTurn}
use Rattle.elf_commands_edits.proofs.ListLaws.{is_batch}
use Rattle.elf_commands_edits.proofs.groups.apply_edits.Goals as goal

pub returns-clause-made : goal.returns-clause-made
returns-clause-made c =
    let same = is_batch c.args.edits.items _ c.in_ok-plain.plain.items _ _ c.as_slice.ensures.value c.has_symbols.ensures c.if-has_symbols.false c.as_slice-2.ensures.value c.in_ok-plain.ensures in
    subst (λ (l : List GroupEdit). OnOk c.apply_batch.result (MakeInTurn l c.args.elf.now.inner c.apply_batch.new.elf.inner)) same c.apply_batch.ensures.made

pub returns-clause-told : goal.returns-clause-told
returns-clause-told c =
    let same = is_batch c.args.edits.items _ c.in_ok-plain.plain.items _ _ c.as_slice.ensures.value c.has_symbols.ensures c.if-has_symbols.false c.as_slice-2.ensures.value c.in_ok-plain.ensures in
    subst (λ (l : List GroupEdit). IfErr c.apply_batch.result (TellsInTurn l c.args.elf.now.inner)) same c.apply_batch.ensures.told
