use Rattle.std.proofs.Common.{◌≡◌, take}
use Rattle.elf_layout_segments.specs.Sections.{indexed_sections}
use Rattle.elf_layout_segments.proofs.sections.sections_of.Given as goal

abbrev pub invariant-loop-i : goal.invariant-loop-i
invariant-loop-i l = l.made.items ≡ take l.i (indexed_sections l.image)
