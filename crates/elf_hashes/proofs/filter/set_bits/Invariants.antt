use Rattle.std.proofs.Common.{◌≤◌, length}
use Rattle.elf_hashes.specs.Steps.{AreBitsSet}
use Rattle.elf_hashes.proofs.filter.set_bits.Given as goal

abbrev pub invariant-loop-i : goal.invariant-loop-i
invariant-loop-i l = record {
  within : l.i ≤ length l.hashes;
  are_set : AreBitsSet l.form l.sizes l.i l.hashes l.words;
}

abbrev pub decreases-loop-i : goal.decreases-loop-i
decreases-loop-i l = l.i
