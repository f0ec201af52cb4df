use Rattle.std.proofs.Common.{◌≡◌, take}
use Rattle.byte_store.specs.Composed.{owned_patches}
use Rattle.byte_store.specs.Laid.{patches_of}
use Rattle.macho_commands_stores.proofs.changes.lent_pieces.Given as goal

abbrev pub invariant-loop-piece : goal.invariant-loop-piece
invariant-loop-piece l = patches_of l.lent.items ≡ owned_patches (take l.piece-index l.pieces)
