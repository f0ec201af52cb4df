-- The slots so far stand behind the pieces.
use Rattle.std.proofs.Common.{◌≡◌, ◌++◌, map, take}
use Rattle.byte_store.specs.Composed.{owned_patches}
use Rattle.byte_store.specs.Shown.{shifted}
use Rattle.macho_commands_stores.specs.Renewing.{slot_patch}
use Rattle.macho_commands_stores.proofs.renewing.push_slots_at.Given as goal

abbrev pub invariant-loop-slot : goal.invariant-loop-slot
invariant-loop-slot l = owned_patches l.pieces.items ≡ owned_patches l.fn.pieces.items ++ map (shifted l.offset) (map slot_patch (take l.slot-index l.slots))
