-- What was made so far and what is left give all.
use Rattle.std.proofs.Common.{◌≡◌, ◌++◌, drop}
use Rattle.macho_signatures.specs.Renewed.{renewed_slots}
use Rattle.macho_signing.specs.Front.{AreEdits}
use Rattle.macho_signing.specs.Thin.{differences}
use Rattle.macho_signing.proofs.front.edited_slots.Given as goal

abbrev pub invariant-loop-directory : goal.invariant-loop-directory
invariant-loop-directory l = AreEdits l.old l.new (λ before after.
    l.slots.items ++ renewed_slots (drop l.directory-index l.directories) (differences before after) after ≡ renewed_slots l.directories (differences before after) after)
