use Rattle.std.proofs.Common.{◌≡◌, ◌++◌, drop}
use Rattle.elf_layout_plan.specs.Marks.{marked_of}
use Rattle.elf_layout_moves.proofs.block_moves.marked_blocks.Given as goal

abbrev pub invariant-loop-place : goal.invariant-loop-place
invariant-loop-place l = l.found.items ++ marked_of (drop l.place l.blocks) (drop l.place l.marks) ≡ marked_of l.blocks l.marks
