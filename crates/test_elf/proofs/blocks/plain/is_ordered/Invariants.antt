use Rattle.elf_layout_plan.specs.MovedBlocks.{IsEarlier}
use Rattle.test_elf.proofs.PairSteps.{Below, Within}
use Rattle.test_elf.proofs.blocks.plain.is_ordered.Given as goal

abbrev pub invariant-loop-first : goal.invariant-loop-first
invariant-loop-first l = Below l.blocks (λ p. IsEarlier p.earlier p.later) l.first

abbrev pub invariant-loop-second : goal.invariant-loop-second
invariant-loop-second l = Within l.blocks (λ p. IsEarlier p.earlier p.later) l.first l.second
