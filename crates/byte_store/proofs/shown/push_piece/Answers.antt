use Rattle.byte_store.proofs.ShownLaws.{adds_cut, adds_past}
use Rattle.byte_store.proofs.shown.push_piece.Goals as goal

pub returns-in_ok-push_differences : goal.returns-in_ok-push_differences
returns-in_ok-push_differences c =
    adds_cut c.args.front.now c.args.piece.now.bytes.now c.args.piece.now.offset c.min-len.result _ _ c.if-offset-front.true c.min-len.ensures c.in_ok-push_differences.ensures

pub returns-else-offset-front : goal.returns-else-offset-front
returns-else-offset-front c =
    adds_past c.args.front.now c.args.piece.now.bytes.now c.args.piece.now.offset c.args.changes.now.items c.if-offset-front.false
