-- The bytes that were read are those of the store.
use Rattle.std.proofs.Common.{List, map, subst, ℕ}
use Rattle.std.proofs.lemmas.Result.{err_from_is_err_and}
use Rattle.arwen_cli_options.specs.Options.{Asked, given_model}
use Rattle.arwen_cli_install_names.specs.Naming.{TellsUnnamed}
use Rattle.arwen_cli_install_names.proofs.FailureLaws.{read_cause, unnamed_cause}
use Rattle.arwen_cli_install_names.proofs.CallLaws.{read_tells, store_unnamed}
use Rattle.arwen_cli_install_names.proofs.editing.edits_in.Goals as goal

pub returns-in_err-bytes-clause-tells : goal.returns-in_err-bytes-clause-tells
returns-in_err-bytes-clause-tells g c =
    let p = err_from_is_err_and c.from_residual.result c.from_residual.ensures.1 in
    rw (p.1, p.2) (read_tells (map given_model c.args.given.now) (g.S.Store.contents c.args.store.now) c.in_err-bytes.field-0.0)

pub returns-in_err-bytes-clause-cause : goal.returns-in_err-bytes-clause-cause
returns-in_err-bytes-clause-cause g c =
    let p = err_from_is_err_and c.from_residual.result c.from_residual.ensures.1 in
    rw (p.1, p.2) (read_cause g.S.Store.may_fail_read g.S.Store.may_fail_write g.S.Store.may_take_none (g.S.Store.contents c.args.store.now) _ _ c.in_err-bytes.field-0.0 c.in_err-bytes.ensures.cause)

pub returns-in_err-edits_for-clause-tells : goal.returns-in_err-edits_for-clause-tells
returns-in_err-edits_for-clause-tells g c =
    let p = err_from_is_err_and c.from_residual-in_err-edits_for.result c.from_residual-in_err-edits_for.ensures.1 in
    let given : List Asked = map given_model c.args.given.now in
    let Of : List ℕ → Type 0 = λ l. TellsUnnamed given l c.in_err-edits_for.field-0.0 in
    rw (p.1, p.2) (store_unnamed given (g.S.Store.contents c.args.store.now) c.in_ok-bytes.bytes.items c.in_err-edits_for.field-0.0 c.in_ok-bytes.ensures.read
    (subst Of c.as_slice.ensures.value c.in_err-edits_for.ensures.err))

pub returns-in_err-edits_for-clause-cause : goal.returns-in_err-edits_for-clause-cause
returns-in_err-edits_for-clause-cause g c =
    let p = err_from_is_err_and c.from_residual-in_err-edits_for.result c.from_residual-in_err-edits_for.ensures.1 in
    rw (p.1, p.2) (unnamed_cause g.S.Store.may_fail_read g.S.Store.may_fail_write g.S.Store.may_take_none (g.S.Store.contents c.args.store.now) _ _ (map given_model c.args.given.now) _
    c.in_err-edits_for.field-0.0 c.in_err-edits_for.ensures.err)
