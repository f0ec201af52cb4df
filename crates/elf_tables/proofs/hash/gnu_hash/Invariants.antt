use Rattle.std.proofs.Common.{◌≡◌, drop}
use Rattle.std.specs.Prelude.{fold}
use Rattle.elf_tables.proofs.HashSteps.{gnu_step}
use Rattle.elf_tables.proofs.hash.gnu_hash.Given as goal

abbrev pub invariant-loop-byte : goal.invariant-loop-byte
invariant-loop-byte l = fold gnu_step l.hash (drop l.byte-index l.name) ≡ fold gnu_step 5381 l.name
