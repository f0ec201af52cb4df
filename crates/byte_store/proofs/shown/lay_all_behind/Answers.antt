use Rattle.std.proofs.Common.{[], arith}
use Rattle.byte_store.proofs.PushLaws.{behind_all, behind_more}
use Rattle.byte_store.proofs.RunLaws.{piece_lies}
use Rattle.byte_store.specs.declared.pieces.Piece.{Piece}
use Rattle.byte_store.proofs.shown.lay_all_behind.Goals as goal

abbrev none : Piece
none = record { offset = 0; bytes = record { ref_ptr = (0, 0); now = [] } }

pub lay_behind-requires-clause-fits : goal.lay_behind-requires-clause-fits
lay_behind-requires-clause-fits c =
    omega (arith, piece_lies c.args.pieces.now 18446744073709551615 c.loop-piece.piece-index none c.requires.fits c.loop-piece-test.true)

pub lay_behind-requires-clause-inside : goal.lay_behind-requires-clause-inside
lay_behind-requires-clause-inside c =
    omega (arith, c.loop-piece.auto.growth, piece_lies c.args.pieces.now _ c.loop-piece.piece-index none c.requires.inside c.loop-piece-test.true)

pub loop-piece-preserved : goal.loop-piece-preserved
loop-piece-preserved c =
    behind_more c.args.len c.args.pieces.now c.loop-piece.piece-index none _ _ _ c.loop-piece-test.true c.loop-piece.invariant c.lay_behind.ensures

pub returns : goal.returns
returns c = behind_all c.args.len c.args.pieces.now c.loop-piece.piece-index _ _ c.loop-piece-test.false c.loop-piece.invariant
