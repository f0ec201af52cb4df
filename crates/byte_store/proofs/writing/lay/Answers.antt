use Rattle.std.proofs.Common.{◌∙◌, [], arith}
use Rattle.std.proofs.lemmas.Result.{err_from_is_err_and}
use Rattle.byte_store.proofs.CauseLaws.{ended_later}
use Rattle.byte_store.proofs.RunLaws.{next_laid, piece_lies, torn_laid}
use Rattle.byte_store.specs.declared.pieces.Piece.{Piece}
use Rattle.byte_store.proofs.writing.lay.Goals as goal

abbrev none : Piece
none = record { offset = 0; bytes = record { ref_ptr = (0, 0); now = [] } }

pub put_all-requires-clause-fits : goal.put_all-requires-clause-fits
put_all-requires-clause-fits g c =
    omega (arith, piece_lies c.args.pieces.now 18446744073709551615 c.loop-piece.piece-index none c.requires.fits c.loop-piece-test.true)

pub returns-in_err-put_all-clause-err : goal.returns-in_err-put_all-clause-err
returns-in_err-put_all-clause-err g c =
    let p = err_from_is_err_and c.from_residual.result c.from_residual.ensures.1 in
    rw p.1 (torn_laid c.args.pieces.now c.loop-piece.piece-index none _ _ _ c.loop-piece-test.true c.loop-piece.invariant.written c.in_err-put_all.ensures.err)

pub loop-piece-preserved : goal.loop-piece-preserved
loop-piece-preserved g c = record {
  opened = c.in_ok-put_all.ensures.open ∙ c.loop-piece.invariant.opened;
  grows = omega (arith, c.in_ok-put_all.ensures.grows);
  written = next_laid c.args.pieces.now c.loop-piece.piece-index none _ _ _ c.loop-piece-test.true c.loop-piece.invariant.written c.in_ok-put_all.ensures.ok;
  idle = λ is. absurd (omega arith);
}

pub returns-in_err-put_all-clause-cause : goal.returns-in_err-put_all-clause-cause
returns-in_err-put_all-clause-cause g c =
    let p = err_from_is_err_and c.from_residual.result c.from_residual.ensures.1 in
    rw (p.1, p.2) (ended_later g.S.Store.may_fail_write g.S.Store.may_take_none _ _ _ _ c.loop-piece.invariant.grows c.in_err-put_all.ensures.cause)
