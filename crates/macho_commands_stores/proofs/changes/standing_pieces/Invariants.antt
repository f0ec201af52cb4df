-- The pieces so far, with what stands in their places.
use Rattle.std.proofs.Common.{◌≡◌, map, take}
use Rattle.byte_store.specs.Laid.{patches_of}
use Rattle.macho_commands_stores.specs.Pieces.{standing_in}
use Rattle.macho_commands_stores.proofs.changes.standing_pieces.Given as goal

abbrev pub invariant-loop-piece : goal.invariant-loop-piece
invariant-loop-piece l = patches_of l.standing.items ≡ map (standing_in l.bytes) (patches_of (take l.piece-index l.pieces))
