use Rattle.std.proofs.Common.{ℕ, ap, arith, drop, take}
use Rattle.macho_signing.specs.Thin.{pages_of}
use Rattle.macho_signing.proofs.SignedLaws.{in_part}
use Rattle.macho_signing.proofs.file.slots_in_part.Goals as goal

pub returns : goal.returns
returns c = in_part (pages_of c.args.scope) _ c.args.bytes.now _ c.args.part c.thin_slots.result c.part.ensures (ap (λ (k : ℕ). take k (drop c.args.part.offset c.args.bytes.now)) (omega arith)) c.requires.inside c.thin_slots.ensures
