use Rattle.std.proofs.lemmas.Result.{err_from_is_err_and}
use Rattle.byte_store.proofs.RunLaws.{laid_and_cut, laid_uncut, laid_whole}
use Rattle.byte_store.specs.Laid.{patches_of}
use Rattle.byte_store.proofs.writing.lay_and_cut.Goals as goal

pub returns-in_err-set_length-clause-err : goal.returns-in_err-set_length-clause-err
returns-in_err-set_length-clause-err g c =
    let p = err_from_is_err_and c.from_residual-in_err-set_length.result c.from_residual-in_err-set_length.ensures.1 in
    rw p.1 (laid_uncut (patches_of c.args.pieces.now) _ _ _ c.in_ok-lay.ensures.ok c.in_err-set_length.ensures.bytes)

pub returns-in_ok-set_length-clause-ok : goal.returns-in_ok-set_length-clause-ok
returns-in_ok-set_length-clause-ok g c =
    laid_and_cut c.args.len c.args.new_length (patches_of c.args.pieces.now) _ _ c.requires.inside c.in_ok-lay.ensures.ok _ c.if-new_length-len.true c.in_ok-set_length.ensures.bytes

pub returns-else-new_length-len-clause-ok : goal.returns-else-new_length-len-clause-ok
returns-else-new_length-len-clause-ok g c =
    laid_whole c.args.len c.args.new_length (patches_of c.args.pieces.now) _ _ c.requires.inside c.in_ok-lay.ensures.ok c.if-new_length-len.false
