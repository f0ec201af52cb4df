use Rattle.std.proofs.lemmas.Result.{err_from_is_err_and}
use Rattle.byte_store.proofs.RunLaws.{changed_grown, growth_left, torn_grown}
use Rattle.byte_store.specs.Laid.{patches_of}
use Rattle.byte_store.proofs.writing.write_changes.Goals as goal

pub returns-in_err-grow-clause-err : goal.returns-in_err-grow-clause-err
returns-in_err-grow-clause-err g c =
    let p = err_from_is_err_and c.from_residual.result c.from_residual.ensures.1 in
    rw (p.1, p.2) (growth_left _ c.args.changes.now.growth.now (patches_of c.args.changes.now.pieces.now) _ _ c.in_err-grow.ensures.err)

pub returns-in-Ok-clause-ok : goal.returns-in-Ok-clause-ok
returns-in-Ok-clause-ok g c =
    let changes = c.args.changes.now in
    changed_grown changes.old_length changes.new_length changes.growth.now (patches_of changes.pieces.now) _ _ _
    c.requires.old c.in_ok-grow.ensures.ok c.in-Ok.ensures.ok

pub returns-in-Err-clause-err : goal.returns-in-Err-clause-err
returns-in-Err-clause-err g c =
    let changes = c.args.changes.now in
    torn_grown changes.old_length changes.new_length changes.growth.now (patches_of changes.pieces.now) _ _ _
    c.requires.old c.in_ok-grow.ensures.ok c.requires.inside c.in-Err.ensures.err
