-- The slots that are left, laid over the bytes as they are now, give all laid over the bytes as they were.
use Rattle.std.proofs.Common.{◌≡◌, drop, length}
use Rattle.macho_signatures.specs.Renewed.{laid}
use Rattle.macho_signatures.proofs.renewal.lay_slots.Given as goal

abbrev pub invariant-loop-slot : goal.invariant-loop-slot
invariant-loop-slot l = record {
  long : length l.bytes ≡ length l.fn.bytes;
  left : laid (drop l.slot-index l.slots) l.bytes ≡ laid l.slots l.fn.bytes;
}
