-- The changes so far stand behind the pieces.
use Rattle.std.proofs.Common.{◌≡◌, ◌++◌, map, take}
use Rattle.byte_store.specs.Composed.{owned_patches}
use Rattle.byte_store.specs.Laid.{patches_of}
use Rattle.byte_store.specs.Shown.{shifted}
use Rattle.macho_commands_stores.proofs.changes.push_changes_at.Given as goal

abbrev pub invariant-loop-change : goal.invariant-loop-change
invariant-loop-change l = owned_patches l.pieces.items ≡ owned_patches l.fn.pieces.items ++ map (shifted l.offset) (patches_of (take l.change-index l.changes))
