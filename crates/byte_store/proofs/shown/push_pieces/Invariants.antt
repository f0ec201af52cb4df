use Rattle.std.proofs.Common.{take}
use Rattle.byte_store.specs.Laid.{patches_of}
use Rattle.byte_store.specs.Shown.{Adds}
use Rattle.byte_store.proofs.shown.push_pieces.Given as goal

abbrev pub invariant-loop-piece : goal.invariant-loop-piece
invariant-loop-piece l = Adds l.front (patches_of (take l.piece-index l.pieces)) l.initial.changes.items l.changes.items
