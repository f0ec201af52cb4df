use Rattle.std.proofs.Common.{[]}
use Rattle.byte_store.specs.Laid.{patch_of}
use Rattle.byte_store.specs.declared.pieces.Piece.{Piece}
use Rattle.byte_store.proofs.ShownLaws.{adds_next, adds_none}
use Rattle.byte_store.proofs.shown.push_pieces.Goals as goal

abbrev none : Piece
none = record { offset = 0; bytes = record { ref_ptr = (0, 0); now = [] } }

pub loop-piece-init : goal.loop-piece-init
loop-piece-init c = adds_none c.args.front.now c.args.changes.now.items

pub loop-piece-preserved : goal.loop-piece-preserved
loop-piece-preserved c =
    adds_next patch_of c.args.front.now c.args.pieces.now c.loop-piece.piece-index none _ _ _ c.loop-piece-test.true c.loop-piece.invariant c.in_ok-push_piece.ensures
