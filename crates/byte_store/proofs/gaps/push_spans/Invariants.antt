use Rattle.std.proofs.Common.{◌≡◌, ◌++◌, map, take}
use Rattle.byte_store.proofs.PushLaws.{piece_span}
use Rattle.byte_store.proofs.gaps.push_spans.Given as goal

abbrev pub invariant-loop-piece : goal.invariant-loop-piece
invariant-loop-piece l = l.spans.items ≡ l.initial.spans.items ++ map piece_span (take l.piece-index l.pieces)
