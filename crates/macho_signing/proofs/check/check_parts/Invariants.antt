-- What was found of the parts so far, of which none is refused.
use Rattle.std.proofs.Common.{◌≡◌, drop, map, take}
use Rattle.macho_signing.specs.Check.{checked_model, part_checked}
use Rattle.macho_signing.specs.File.{first_fault, part_bytes}
use Rattle.macho_signing.specs.Thin.{thin_fault}
use Rattle.macho_signing.proofs.check.check_parts.Given as goal

abbrev pub invariant-loop-part : goal.invariant-loop-part
invariant-loop-part l = record {
  made : map checked_model l.all.items ≡ map (part_checked l.bytes) (take l.part-index l.parts);
  left : first_fault (λ p. thin_fault (part_bytes l.bytes p)) l.parts ≡ first_fault (λ p. thin_fault (part_bytes l.bytes p)) (drop l.part-index l.parts);
}
