-- What the steps of making contents answer.
use Rattle.std.specs.Prelude.{ℕ, slice_index}
use Rattle.elf_format.specs.Image.{Image, ImageSection}
use Rattle.elf_image.specs.Kept.{KeptSection}

-- the section at a position, with the number that it was read at
abbrev pub kept : Image → ℕ → ImageSection → KeptSection
kept image i s = record { position = i; number = slice_index image.section_numbers i; section = s }
