use Rattle.std.proofs.Common.{◌≡◌, Some, false}
use Rattle.std.specs.Prelude.{slice_get}
use Rattle.elf_layout_plan.specs.MovedBlocks.{IsApart}
use Rattle.test_elf.proofs.PairSteps.{Below, Within}
use Rattle.test_elf.proofs.blocks.plain.stay_apart.Given as goal

abbrev pub invariant-loop-first : goal.invariant-loop-first
invariant-loop-first l = Below l.blocks (λ p. slice_get l.moves p.first ≡ Some false → slice_get l.moves p.second ≡ Some false → IsApart p.earlier p.later) l.first

abbrev pub invariant-loop-second : goal.invariant-loop-second
invariant-loop-second l = Within l.blocks (λ p. slice_get l.moves p.first ≡ Some false → slice_get l.moves p.second ≡ Some false → IsApart p.earlier p.later) l.first l.second
