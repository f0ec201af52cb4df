-- What was made so far and what is left give all.
use Rattle.std.proofs.Common.{◌≡◌, ◌++◌, drop}
use Rattle.macho_signatures.specs.Renewed.{renewed_slots}
use Rattle.macho_signing.specs.Thin.{pages_of, touched_by}
use Rattle.macho_signing.proofs.thin.signature_slots.Given as goal

abbrev pub invariant-loop-directory : goal.invariant-loop-directory
invariant-loop-directory l =
    l.slots.items ++ renewed_slots (drop l.directory-index l.signature.directories.items) (touched_by (pages_of l.scope) l.bytes) l.bytes
    ≡ renewed_slots l.signature.directories.items (touched_by (pages_of l.scope) l.bytes) l.bytes
