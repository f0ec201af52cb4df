-- What was made of the parts so far, of which none is refused.
use Rattle.std.proofs.Common.{◌≡◌, All, drop, take}
use Rattle.std.specs.List.{flat_map, list_any}
use Rattle.macho_signing.specs.File.{first_fault, has_identity_in, part_bytes, part_fault, part_slots}
use Rattle.macho_signing.specs.Thin.{AreSlotsPlaced, pages_of}
use Rattle.macho_signing.proofs.file.part_slots_of.Given as goal

abbrev pub invariant-loop-part : goal.invariant-loop-part
invariant-loop-part l = record {
  made : l.slots.items ≡ flat_map (part_slots (pages_of l.scope) l.bytes) (take l.part-index l.parts);
  identities : l.are_some_left ≡ list_any (has_identity_in l.bytes) (take l.part-index l.parts);
  placed : All (λ p. AreSlotsPlaced (part_bytes l.bytes p)) (take l.part-index l.parts);
  left : first_fault (part_fault (pages_of l.scope) l.bytes) l.parts ≡ first_fault (part_fault (pages_of l.scope) l.bytes) (drop l.part-index l.parts);
}
