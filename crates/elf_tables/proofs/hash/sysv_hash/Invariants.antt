use Rattle.std.proofs.Common.{◌≡◌, drop}
use Rattle.std.specs.Prelude.{fold}
use Rattle.elf_format.specs.Hashes.{gabi_step}
use Rattle.elf_tables.proofs.hash.sysv_hash.Given as goal

abbrev pub invariant-loop-byte : goal.invariant-loop-byte
invariant-loop-byte l = fold gabi_step l.hash (drop l.byte-index l.name) ≡ fold gabi_step 0 l.name
