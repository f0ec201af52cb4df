use Rattle.std.proofs.Common.{◌≡◌, length}
use Rattle.elf_write_symbols.proofs.NumberFacts.{AreNumberedTo}
use Rattle.elf_write_symbols.proofs.section_numbers.number_sections.Given as goal

-- the sections so far have their numbers
abbrev pub invariant-loop-i : goal.invariant-loop-i
invariant-loop-i l = (length l.numbers ≡ length l.read.sections) × AreNumberedTo l.image.section_numbers l.i l.numbers
