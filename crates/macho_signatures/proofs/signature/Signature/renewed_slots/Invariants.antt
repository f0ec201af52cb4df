-- What was made so far and what is left give all.
use Rattle.std.proofs.Common.{◌≡◌, ◌++◌, drop}
use Rattle.macho_signatures.specs.Renewed.{renewed_slots}
use Rattle.macho_signatures.proofs.signature.Signature.renewed_slots.Given as goal

abbrev pub invariant-loop-directory : goal.invariant-loop-directory
invariant-loop-directory l = l.slots.items ++ renewed_slots (drop l.directory-index l.self.directories.items) l.touched l.bytes ≡ renewed_slots l.self.directories.items l.touched l.bytes
