-- The slots so far.
use Rattle.std.proofs.Common.{◌≡◌, ◌++◌, map, take}
use Rattle.macho_signing.specs.File.{slot_in}
use Rattle.macho_signing.proofs.file.push_shifted.Given as goal

abbrev pub invariant-loop-slot : goal.invariant-loop-slot
invariant-loop-slot l = l.slots.items ≡ l.fn.slots.items ++ map (slot_in l.offset) (take l.slot-index l.more)
