use Rattle.std.proofs.Common.{map, refl, string_bytes}
use Rattle.std.proofs.lemmas.Result.{err_from_is_err_and}
use Rattle.elf_commands_lines.specs.ElfAsked.{elf_asked}
use Rattle.elf_commands_edits.specs.Groups.{group_model}
use Rattle.elf_commands_lines.specs.Meaning.{elf_command_model, elf_file_of}
use Rattle.elf_commands.proofs.ElfOutcomes.{may_fail}
use Rattle.elf_commands.proofs.ElfStoreLaws.{elf_failed, elf_patched, file_refused, nothing_differs, replaced_as_asked}
use Rattle.elf_commands.proofs.NotingLaws.{told_of_store}
use Rattle.elf_commands.proofs.FailureLaws.{refused_unwritten, replaced_cause}
use Rattle.elf_commands.proofs.elf.editing.edit_loaded.Goals as goal

pub returns-in_err-difference-clause-err : goal.returns-in_err-difference-clause-err
returns-in_err-difference-clause-err g c =
    let p = err_from_is_err_and c.from_residual.result c.from_residual.ensures.1 in
    rw (p.1, p.2) (may_fail (elf_asked (elf_command_model c.args.command.now)) c.args.bytes.now _ c.in_err-difference.ensures.err)

pub returns-in_err-difference-clause-left : goal.returns-in_err-difference-clause-left
returns-in_err-difference-clause-left g c =
    let p = err_from_is_err_and c.from_residual.result c.from_residual.ensures.1 in
    rw (p.1, p.2) (file_refused _ (elf_asked (elf_command_model c.args.command.now)) (g.S.Store.contents c.args.store.now) c.args.bytes.now _ c.requires.whole c.in_err-difference.ensures.err)

pub returns-in_err-difference-clause-cause : goal.returns-in_err-difference-clause-cause
returns-in_err-difference-clause-cause g c =
    let p = err_from_is_err_and c.from_residual.result c.from_residual.ensures.1 in
    rw (p.1, p.2) (refused_unwritten g.S.Store.may_fail_write g.S.Store.may_take_none (elf_asked (elf_command_model c.args.command.now)) c.args.bytes.now _ _ _ c.in_err-difference.ensures.err)

pub returns-in_err-make_opened-clause-err : goal.returns-in_err-make_opened-clause-err
returns-in_err-make_opened-clause-err g c =
    let p = err_from_is_err_and c.from_residual-in_err-make_opened.result c.from_residual-in_err-make_opened.ensures.1 in
    rw (p.1, p.2) (replaced_as_asked (elf_asked (elf_command_model c.args.command.now)) c.in_err-make_opened.field-0.0)

pub returns-in_err-make_opened-clause-cause : goal.returns-in_err-make_opened-clause-cause
returns-in_err-make_opened-clause-cause g c =
    let p = err_from_is_err_and c.from_residual-in_err-make_opened.result c.from_residual-in_err-make_opened.ensures.1 in
    rw (p.1, p.2) (replaced_cause g.S.Store.may_fail_write g.S.Store.may_take_none _ _ c.in_err-make_opened.field-0.0 c.in_err-make_opened.ensures.cause)

pub returns-in_err-make_opened-clause-left : goal.returns-in_err-make_opened-clause-left
returns-in_err-make_opened-clause-left g c =
    let p = err_from_is_err_and c.from_residual-in_err-make_opened.result c.from_residual-in_err-make_opened.ensures.1 in
    rw (p.1, p.2) (elf_failed g.S.Store.may_fail_write g.S.Store.may_take_none _ _ (elf_asked (elf_command_model c.args.command.now)) g.S.Store.contents c.args.store.now c.make_opened.new.store c.args.bytes.now c.in_ok-difference.difference _ c.requires.whole c.in_ok-difference.ensures.makeable c.in_ok-difference.ensures.left c.in_err-make_opened.ensures.err
    c.in_err-make_opened.ensures.cause)

pub returns-clause-patched : goal.returns-clause-patched
returns-clause-patched g c =
    elf_patched (elf_asked (elf_command_model c.args.command.now)) (map group_model c.args.edits.items) (g.S.Store.contents c.args.store.now) (g.S.Store.contents c.make_opened.new.store) c.args.bytes.now
    c.in_ok-difference.difference c.requires.asked c.requires.whole c.in_ok-difference.ensures.left c.in_ok-make_opened.ensures.ok

-- what is told of the bytes that were read is told of the store
pub returns-clause-told : goal.returns-clause-told
returns-clause-told g c =
    told_of_store c.args.notes (elf_asked (elf_command_model c.args.command.now)) (elf_file_of (elf_command_model c.args.command.now)) (g.S.Store.contents c.args.store.now) c.args.bytes.now (string_bytes c.in_ok-difference.text)
    c.requires.whole c.in_ok-difference.ensures.told

pub returns-clause-idle : goal.returns-clause-idle
returns-clause-idle g c = λ nothing. c.in_ok-make_opened.ensures.idle (nothing_differs c.args.bytes.now _ c.in_ok-difference.difference refl (c.in_ok-difference.ensures.idle nothing))

pub returns-clause-opens : goal.returns-clause-opens
returns-clause-opens g c = λ nothing. c.in_ok-make_opened.ensures.opens (nothing_differs c.args.bytes.now _ c.in_ok-difference.difference refl (c.in_ok-difference.ensures.idle nothing))
