-- The pieces so far stand behind the first ones.
use Rattle.std.proofs.Common.{◌≡◌, ◌++◌}
use Rattle.byte_store.specs.Composed.{owned_patches}
use Rattle.macho_commands.proofs.renewed.joined.Given as goal

abbrev pub invariant-loop-piece : goal.invariant-loop-piece
invariant-loop-piece l = owned_patches l.pieces.items ≡ owned_patches l.initial.pieces.items ++ owned_patches l.yielded
