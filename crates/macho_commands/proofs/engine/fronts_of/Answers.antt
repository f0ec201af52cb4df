use Rattle.std.proofs.lemmas.Result.{err_from_is_err_and}
use Rattle.macho_commands.proofs.engine.fronts_of.Goals as goal

pub returns-in_err-edits-clause-err : goal.returns-in_err-edits-clause-err
returns-in_err-edits-clause-err c =
    let p = err_from_is_err_and c.from_residual.result c.from_residual.ensures.1 in
    rw (p.1, p.2) (c.in_err-edits.ensures.err c.args.bytes.now)
