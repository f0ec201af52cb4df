-- The numbers that sections get in a written file, as they are handed on.
use Rattle.std.specs.Prelude.{ℕ, ◌≡◌, List, length, map, Some, None}
use Rattle.elf_format.specs.Image.{Image, counted}
use Rattle.elf_image.specs.Kept.{kept_at_number}
use Rattle.elf_write_symbols.specs.declared.section_numbers.NewSections.{NewSections}

-- where the section stands that was read at a number; 0 where it isn't there
abbrev pub new_section : Image → ℕ → ℕ
new_section image number = elim (kept_at_number number image) [ Some s ↦ s.position | None ↦ 0 ]

-- where each section stands that was read; 0 where it isn't there
abbrev pub all_sections : Image → Image → List ℕ
all_sections read image = map (new_section image) (counted (length read.sections))

pub record AreNewSections (read image : Image) (n : NewSections) : Type 0 where
  pub numbers : n.numbers.items ≡ all_sections read image
