use Rattle.std.proofs.Common.{◌≤◌, length}
use Rattle.elf_hashes.specs.Steps.{AreChained}
use Rattle.elf_hashes.proofs.chains.chain.Given as goal

abbrev pub invariant-loop-i : goal.invariant-loop-i
invariant-loop-i l = record {
  within : l.i ≤ length l.hashes;
  chained : AreChained l.i l.hashes l.firsts l.nexts;
}

abbrev pub decreases-loop-i : goal.decreases-loop-i
decreases-loop-i l = l.i
