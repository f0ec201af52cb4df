-- The bytes before the edits are those that were read.
use Rattle.std.proofs.Common.{List, map}
use Rattle.std.proofs.lemmas.Result.{err_from_is_err_and}
use Rattle.macho_edits.specs.Batch.{calls_of}
use Rattle.macho_edits.specs.Call.{Call}
use Rattle.arwen_cli_options.specs.Options.{given_model}
use Rattle.arwen_cli_install_names.proofs.FailureLaws.{cause_after, fails_after, uncalled_fails}
use Rattle.arwen_cli_install_names.proofs.editing.name_store.Goals as goal

pub returns-in_err-edits-clause-left : goal.returns-in_err-edits-clause-left
returns-in_err-edits-clause-left g c =
    let p = err_from_is_err_and c.from_residual.result c.from_residual.ensures.1 in
    rw (p.1, p.2) (uncalled_fails _ (map given_model c.args.given.now) c.args.path.now (g.S.Store.contents c.args.store.now) (g.S.Store.contents c.edits_in.new.store) c.in_err-edits.field-0.0
    c.in_err-edits.ensures.kept c.in_err-edits.ensures.tells)

pub returns-in_err-patch_by-clause-left : goal.returns-in_err-patch_by-clause-left
returns-in_err-patch_by-clause-left g c =
    let p = err_from_is_err_and c.from_residual-in_err-patch_by.result c.from_residual-in_err-patch_by.ensures.1 in
    let calls : List Call = calls_of c.in_ok-edits.edits.items in
    rw (p.1, p.2) (fails_after g.S.Store.may_fail_write g.S.Store.may_take_none (map given_model c.args.given.now) c.args.path.now calls (g.S.Store.contents c.args.store.now) _ (g.S.Store.contents c.patch_by.new.store) _ _ _
    c.in_err-patch_by.field-0.0 c.in_ok-edits.ensures.are c.in_ok-edits.ensures.kept c.in_ok-edits.ensures.grows c.in_err-patch_by.ensures.left)

pub returns-in_err-patch_by-clause-cause : goal.returns-in_err-patch_by-clause-cause
returns-in_err-patch_by-clause-cause g c =
    let p = err_from_is_err_and c.from_residual-in_err-patch_by.result c.from_residual-in_err-patch_by.ensures.1 in
    rw (p.1, p.2) (cause_after g.S.Store.may_fail_read g.S.Store.may_fail_write g.S.Store.may_take_none (g.S.Store.contents c.args.store.now) _ _ _ _ c.in_err-patch_by.field-0.0
    c.in_ok-edits.ensures.kept c.in_ok-edits.ensures.grows c.in_err-patch_by.ensures.cause)
