use Rattle.std.proofs.Common.{◌≡◌, map, take}
use Rattle.byte_store.specs.Laid.{laid}
use Rattle.byte_store.proofs.PushLaws.{piece_behind}
use Rattle.byte_store.proofs.shown.lay_all_behind.Given as goal

abbrev pub invariant-loop-piece : goal.invariant-loop-piece
invariant-loop-piece l = l.growth ≡ laid (map (piece_behind l.len) (take l.piece-index l.pieces)) l.initial.growth
