use Rattle.std.proofs.Common.{◌≡◌, ℕ, length}
use Rattle.std.specs.Prelude.{Some, slice_get}
use Rattle.elf_layout_plan.specs.declared.block.Block.{Block as Ranged}
use Rattle.elf_layout_plan.specs.Blocks.{Block}
use Rattle.elf_layout_moves.specs.BlockSteps.{IsRangeOf}
use Rattle.elf_layout_moves.proofs.block_moves.ranges.Given as goal

abbrev pub invariant-loop-place : goal.invariant-loop-place
invariant-loop-place l = record {
  many : length l.made.items ≡ l.place;
  each : (i : ℕ) (x : Block) (range : Ranged) → slice_get l.sorted i ≡ Some x → slice_get l.made.items i ≡ Some range → IsRangeOf l.sorted i x range;
}
