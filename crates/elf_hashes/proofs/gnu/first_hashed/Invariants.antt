use Rattle.std.proofs.Common.{◌≡◌, ◌+◌, drop}
use Rattle.elf_hashes.specs.Gnu.{first_hashed}
use Rattle.elf_hashes.proofs.gnu.first_hashed.Given as goal

abbrev pub invariant-loop-i : goal.invariant-loop-i
invariant-loop-i l = l.i + first_hashed (drop l.i l.hashes) ≡ first_hashed l.hashes
