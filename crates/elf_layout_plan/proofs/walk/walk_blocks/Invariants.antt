use Rattle.std.proofs.Common.{◌+◌, ◌≤◌, length}
use Rattle.elf_layout_plan.proofs.WalkSteps.{IsWalked}
use Rattle.elf_layout_plan.proofs.walk.walk_blocks.Given as goal

abbrev pub invariant-loop-next : goal.invariant-loop-next
invariant-loop-next g l = record {
  walked : IsWalked l.blocks l.moves l.last l.next;
  counted : l.steps + 1 ≤ l.initial.steps + l.next;
  few : l.steps ≤ l.initial.steps + length l.blocks;
}
