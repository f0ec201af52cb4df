use Rattle.std.proofs.Common.{◌≡◌, ◌≢◌, ℕ, ◌+◌, ◌<◌, ◌≤◌}
use Rattle.std.specs.Prelude.{Some, slice_get}
use Rattle.elf_layout_plan.specs.Blocks.{Block}
use Rattle.elf_layout_moves.specs.declared.limits.TheConstants.{NEVER}
use Rattle.elf_layout_moves.proofs.limits.bound_behind.Given as goal

abbrev pub invariant-loop-block : goal.invariant-loop-block
invariant-loop-block l = record {
  within : l.bound ≤ NEVER;
  bound : (k : ℕ) (b : Block) → k < l.block-index → slice_get l.blocks k ≡ Some b → l.from ≤ b.start → b.priority ≢ 2 → l.bound ≤ b.start + 1;
}
