use Rattle.std.proofs.Common.{◌≡◌, ◌++◌}
use Rattle.elf_layout_moves.specs.ImageBlocks.{section_blocks_from}
use Rattle.elf_layout_moves.proofs.blocks.push_sections.Given as goal

abbrev pub invariant-loop-position : goal.invariant-loop-position
invariant-loop-position l = l.made.items ++ section_blocks_from l.r l.position ≡ l.fn.made.items ++ section_blocks_from l.r 0
