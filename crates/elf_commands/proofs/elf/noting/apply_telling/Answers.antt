-- The batch of a list of plain edits is this list.
use Rattle.std.proofs.Common.{◌∙◌, List, Option, ap, string_bytes, subst}
use Rattle.std.specs.Prelude.{IfErr, IfOk, OnOk}
use Rattle.elf_edits.specs.Edit.{Edit}
use Rattle.elf_commands_edits.specs.Groups.{GroupEdit, MakeInTurn}
use Rattle.elf_commands_edits.proofs.ListLaws.{is_batch}
use Rattle.elf_commands_lines.specs.Groups.{edits_model}
use Rattle.elf_commands.specs.Noting.{TellsNoted, TellsUnmade, noted}
use Rattle.elf_commands.proofs.NotingLaws.{all_noted}
use Rattle.elf_commands.proofs.elf.noting.apply_telling.Goals as goal

pub returns-clause-make : goal.returns-clause-make
returns-clause-make c =
    let same = is_batch c.args.edits.items _ c.in_ok-plain.plain.items _ _ c.as_slice.ensures.value c.has_symbols.ensures c.if-has_symbols.false c.as_slice-2.ensures.value c.in_ok-plain.ensures in
    subst (λ (l : List GroupEdit). OnOk c.apply_batch_telling.result (MakeInTurn l c.args.elf.now.inner c.apply_batch_telling.new.elf.inner)) same c.apply_batch_telling.ensures.make

pub returns-clause-told : goal.returns-clause-told
returns-clause-told c =
    let same = is_batch c.args.edits.items _ c.in_ok-plain.plain.items _ _ c.as_slice.ensures.value c.has_symbols.ensures c.if-has_symbols.false c.as_slice-2.ensures.value c.in_ok-plain.ensures in
    subst (λ (o : Option (List Edit)). IfOk c.apply_batch_telling.result (λ text. TellsNoted o c.args.name.now c.args.elf.now.inner (string_bytes text)))
    (all_noted (edits_model c.as_slice-2.result.now) ∙ ap noted same) c.apply_batch_telling.ensures.told

pub returns-clause-err : goal.returns-clause-err
returns-clause-err c =
    let same = is_batch c.args.edits.items _ c.in_ok-plain.plain.items _ _ c.as_slice.ensures.value c.has_symbols.ensures c.if-has_symbols.false c.as_slice-2.ensures.value c.in_ok-plain.ensures in
    subst (λ (l : List GroupEdit). IfErr c.apply_batch_telling.result (TellsUnmade l c.args.elf.now.inner)) same c.apply_batch_telling.ensures.err
