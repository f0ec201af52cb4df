use Rattle.std.proofs.Common.{[], List, Option, ℕ, string_bytes, subst}
use Rattle.std.specs.Prelude.{IfErr, IfOk, OnOk}
use Rattle.std.proofs.lemmas.Result.{IfErr-weaker, err_from_is_err_and}
use Rattle.std.specs.declared.io.Error.{Error}
use Rattle.command_words.specs.Rows.{Text}
use Rattle.elf_commands_lines.specs.ElfAsked.{ElfAsked, elf_asked}
use Rattle.elf_commands.specs.ElfStores.{FailsElf, IsElfPatched, WritesEnd}
use Rattle.elf_commands_lines.specs.Meaning.{elf_command_model, elf_file_of}
use Rattle.elf_commands.specs.Noting.{TellsWantedAt}
use Rattle.elf_commands.proofs.ElfOutcomes.{may_fail}
use Rattle.elf_commands.proofs.ElfStoreLaws.{fails_after, read_as_asked, read_fails, words_refused}
use Rattle.elf_commands.proofs.FailureLaws.{cause_after, read_cause, refused_for_itself}
use Rattle.elf_commands.proofs.elf.editing.edit_store.Goals as goal

pub returns-in_err-bytes-clause-err : goal.returns-in_err-bytes-clause-err
returns-in_err-bytes-clause-err g c =
    let p = err_from_is_err_and c.from_residual.result c.from_residual.ensures.1 in
    rw (p.1, p.2) (read_as_asked (elf_asked (elf_command_model c.args.command.now)) c.in_err-bytes.field-0.0)

pub returns-in_err-bytes-clause-left : goal.returns-in_err-bytes-clause-left
returns-in_err-bytes-clause-left g c =
    let p = err_from_is_err_and c.from_residual.result c.from_residual.ensures.1 in
    rw (p.1, p.2) (read_fails _ (elf_asked (elf_command_model c.args.command.now)) _ _ c.in_err-bytes.field-0.0 c.in_err-bytes.ensures.kept)

pub returns-in_err-bytes-clause-cause : goal.returns-in_err-bytes-clause-cause
returns-in_err-bytes-clause-cause g c =
    let p = err_from_is_err_and c.from_residual.result c.from_residual.ensures.1 in
    rw (p.1, p.2) (read_cause g.S.Store.may_fail_read g.S.Store.may_fail_write g.S.Store.may_take_none (g.S.Store.contents c.args.store.now) _ _ c.in_err-bytes.field-0.0 c.in_err-bytes.ensures.cause)

pub returns-in_err-asked-clause-err : goal.returns-in_err-asked-clause-err
returns-in_err-asked-clause-err g c =
    let p = err_from_is_err_and c.from_residual-in_err-asked.result c.from_residual-in_err-asked.ensures.1 in
    rw (p.1, p.2) (may_fail (elf_asked (elf_command_model c.args.command.now)) [] _ (c.in_err-asked.ensures.err []))

pub returns-in_err-asked-clause-left : goal.returns-in_err-asked-clause-left
returns-in_err-asked-clause-left g c =
    let p = err_from_is_err_and c.from_residual-in_err-asked.result c.from_residual-in_err-asked.ensures.1 in
    rw (p.1, p.2) (words_refused _ (elf_asked (elf_command_model c.args.command.now)) _ _ _ c.in_ok-bytes.ensures.kept c.in_err-asked.ensures.err)

pub returns-in_err-asked-clause-cause : goal.returns-in_err-asked-clause-cause
returns-in_err-asked-clause-cause g c =
    let p = err_from_is_err_and c.from_residual-in_err-asked.result c.from_residual-in_err-asked.ensures.1 in
    rw (p.1, p.2) (refused_for_itself g.S.Store.may_fail_read g.S.Store.may_fail_write g.S.Store.may_take_none (g.S.Store.contents c.args.store.now) (elf_asked (elf_command_model c.args.command.now)) [] _ _ _ (c.in_err-asked.ensures.err []))

-- the store that was loaded has the bytes that it had
pub returns-clause-patched : goal.returns-clause-patched
returns-clause-patched g c =
    let Patched : Option (List ℕ) → Type 0 = λ o. OnOk c.edit_as_asked.result (IsElfPatched (elf_asked (elf_command_model c.args.command.now)) o (g.S.Store.contents c.edit_as_asked.new.store)) in
    subst Patched c.in_ok-bytes.ensures.kept c.edit_as_asked.ensures.patched

pub returns-clause-told : goal.returns-clause-told
returns-clause-told g c =
    let a : ElfAsked = elf_asked (elf_command_model c.args.command.now) in
    let path : Text = elf_file_of (elf_command_model c.args.command.now) in
    let Of : Option (List ℕ) → Type 0 = λ o. IfOk c.edit_as_asked.result (λ text. TellsWantedAt c.args.notes a path o (string_bytes text)) in
    subst Of c.in_ok-bytes.ensures.kept c.edit_as_asked.ensures.told

pub returns-clause-left : goal.returns-clause-left
returns-clause-left g c =
    let a : ElfAsked = elf_asked (elf_command_model c.args.command.now) in
    let new : Option (List ℕ) = g.S.Store.contents c.edit_as_asked.new.store in
    let ended : Error → Type 0 = WritesEnd g.S.Store.may_fail_write g.S.Store.may_take_none (g.S.Store.failed c.args.store.now) (g.S.Store.failed c.edit_as_asked.new.store) in
    let Fails : Option (List ℕ) → Type 0 = λ o. IfErr c.edit_as_asked.result (FailsElf ended a o new) in
    subst Fails c.in_ok-bytes.ensures.kept
    (IfErr-weaker c.edit_as_asked.result _ (FailsElf ended a (g.S.Store.contents c.load.new.store) new) (λ e fails.
    fails_after g.S.Store.may_fail_write g.S.Store.may_take_none _ _ _ a _ _ e c.in_ok-bytes.ensures.grows fails) c.edit_as_asked.ensures.left)

pub returns-clause-cause : goal.returns-clause-cause
returns-clause-cause g c =
    IfErr-weaker c.edit_as_asked.result _ _ (λ e why.
    cause_after g.S.Store.may_fail_read g.S.Store.may_fail_write g.S.Store.may_take_none (g.S.Store.contents c.args.store.now) _ _ _ e c.in_ok-bytes.ensures.grows why) c.edit_as_asked.ensures.cause
