use Rattle.std.proofs.Common.{◌≡◌, length}
use Rattle.elf_layout_reasons.specs.Stuck.{first_pair}
use Rattle.elf_layout_reasons.proofs.pairs.first_pair.Given as goal

abbrev pub invariant-loop-block : goal.invariant-loop-block
invariant-loop-block l = first_pair l.rest ≡ first_pair l.blocks

abbrev pub decreases-loop-block : goal.decreases-loop-block
decreases-loop-block l = length l.rest
