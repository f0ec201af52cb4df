use Rattle.std.proofs.Common.{[], arith}
use Rattle.byte_store.proofs.PushLaws.{spans_all}
use Rattle.byte_store.proofs.RunLaws.{piece_lies}
use Rattle.byte_store.specs.declared.pieces.Piece.{Piece}
use Rattle.byte_store.proofs.gaps.push_spans.Goals as goal

abbrev none : Piece
none = record { offset = 0; bytes = record { ref_ptr = (0, 0); now = [] } }

pub overflow_add-start : goal.overflow_add-start
overflow_add-start c =
    omega (arith, piece_lies c.args.pieces.now 18446744073709551615 c.loop-piece.piece-index none c.requires c.loop-piece-test.true)

pub returns : goal.returns
returns c = spans_all c.args.pieces.now c.loop-piece.piece-index _ _ c.loop-piece-test.false c.loop-piece.invariant
