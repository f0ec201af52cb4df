use Rattle.std.proofs.Common.{◌≡◌, drop}
use Rattle.elf_write_strings.specs.PlacedTexts.{names_of_sections}
use Rattle.elf_write_strings.specs.WrittenStrings.{are_section_names_left, are_texts_left}
use Rattle.elf_write_strings.proofs.left.are_section_names_left.Given as goal

-- what is left is as all
abbrev pub invariant-loop-i : goal.invariant-loop-i
invariant-loop-i l =
    are_texts_left (names_of_sections l.read.sections) (drop l.i l.image.section_numbers) (drop l.i (names_of_sections l.image.sections))
    ≡ are_section_names_left l.read l.image
