use Rattle.std.proofs.Common.{◌≡◌, ◌++◌, map, take}
use Rattle.byte_store.specs.Composed.{owned_patches}
use Rattle.byte_store.proofs.PushLaws.{moved_piece}
use Rattle.byte_store.proofs.shown.push_owned.Given as goal

abbrev pub invariant-loop-piece : goal.invariant-loop-piece
invariant-loop-piece l = owned_patches l.changes.items
    ≡ owned_patches l.initial.changes.items ++ map (moved_piece l.offset) (take l.piece-index l.pieces)
