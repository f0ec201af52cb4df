-- What the slots so far have made of the bytes and of the pieces.
use Rattle.std.proofs.Common.{◌≡◌, length, drop}
use Rattle.macho_signatures.specs.Renewed.{laid}
use Rattle.macho_commands_stores.specs.Pieces.{LaysOn, LiesOn}
use Rattle.macho_commands_stores.proofs.changes.lay_slots.Given as goal

abbrev pub invariant-loop-slot : goal.invariant-loop-slot
invariant-loop-slot l = record {
  long : length l.bytes ≡ length l.fn.bytes;
  done : laid (drop l.slot-index l.slots) l.bytes ≡ laid l.slots l.fn.bytes;
  lays : LaysOn l.fn.pieces.items l.pieces.items l.fn.bytes l.bytes;
  inside : LiesOn (length l.fn.bytes) l.fn.pieces.items l.pieces.items;
}
