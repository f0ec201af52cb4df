use Rattle.std.proofs.Common.{◌≡◌, ◌<◌, ℕ, Some, true}
use Rattle.std.specs.Prelude.{slice_get}
use Rattle.elf_layout_plan.specs.MovedBlocks.{HasCause}
use Rattle.test_elf.proofs.blocks.plain.move_for_cause.Given as goal

abbrev pub invariant-loop-place : goal.invariant-loop-place
invariant-loop-place l = (k : ℕ) → k < l.place → slice_get l.moves k ≡ Some true → HasCause l.blocks k
