use Rattle.elf_layout_plan.specs.MovedBlocks.{IsStuck}
use Rattle.test_elf.proofs.PairSteps.{Below, Within}
use Rattle.test_elf.proofs.blocks.plain.has_stuck.Given as goal

abbrev pub invariant-loop-first : goal.invariant-loop-first
invariant-loop-first l = Below l.blocks (λ p. IsStuck p.earlier p.later → ⊥) l.first

abbrev pub invariant-loop-second : goal.invariant-loop-second
invariant-loop-second l = Within l.blocks (λ p. IsStuck p.earlier p.later → ⊥) l.first l.second
