-- The sections of an image, each with where it stands now and the number that it was read at. Links between sections keep
-- the numbers of read.
use Rattle.std.specs.Prelude.{ℕ, ◌+◌, List, [], ◌∷◌, Bool, Option, Some, ◌==◌, find, Ok, Err}
use Rattle.patch_bytes.specs.Memory.{◌>>=◌}
use Rattle.elf_format.specs.declared.constants.TheConstants.{PT_INTERP, SHT_DYNAMIC, SHT_DYNSYM}
use Rattle.elf_format.specs.File.{segment_of_type}
use Rattle.elf_format.specs.Image.{Image, ImageSection, image_of}
use Rattle.elf_format.specs.Options.{first_there, is_some_and}
use Rattle.elf_format.specs.Places.{Place}
pub use Rattle.elf_image_headers.specs.Spare.{link_in_sections, stands_as_interpreter}

-- the image as its source was read, before any edit
abbrev pub image_at_read : Image → Image
image_at_read image = elim (image_of image.source) [ Ok read ↦ read | Err _ ↦ image ]

-- A section that is still there: its position among those that are, and its number at read.
pub record KeptSection : Type 0 where
  pub position : ℕ
  pub number : ℕ
  pub section : ImageSection

abbrev pub kept_from : ℕ → List ℕ → List ImageSection → List KeptSection
kept_from position [] sections = []
kept_from position (n ∷ ns) [] = []
kept_from position (n ∷ ns) (s ∷ ss) = record { position = position; number = n; section = s } ∷ kept_from (position + 1) ns ss

-- the sections that are there, in order
abbrev pub kept_sections : Image → List KeptSection
kept_sections image = kept_from 0 image.section_numbers image.sections

-- the place at which a section was read
abbrev pub place_at_read : ImageSection → Place
place_at_read s = record { sh_type = s.sh_type; sh_flags = s.sh_flags; sh_addr = s.sh_addr; sh_offset = s.sh_offset; sh_size = s.sh_size }

-- the first section of a type
abbrev pub kept_of_type : ℕ → Image → Option KeptSection
kept_of_type type image = find (λ s. s.section.sh_type == type) (kept_sections image)

-- the section that was read at a number
abbrev pub kept_at_number : ℕ → Image → Option KeptSection
kept_at_number number image = find (λ s. s.number == number) (kept_sections image)

-- the number of the section that the first of a type links to (gABI, Sections, sh_link)
abbrev pub link_of_type : ℕ → Image → Option ℕ
link_of_type type image = kept_of_type type image >>= λ s. Some s.section.sh_link

-- the dynamic strings: those of the dynamic list, or without one those of the dynamic symbols
abbrev pub dynamic_strings_number : Image → Option ℕ
dynamic_strings_number image = first_there (link_of_type SHT_DYNAMIC image) (link_of_type SHT_DYNSYM image)

-- the number at read of the section with the interpreter's name
abbrev pub interpreter_number : Image → Option ℕ
interpreter_number read =
    segment_of_type PT_INTERP read.segments
    >>= λ p. find (λ s. stands_as_interpreter p s.section) (kept_sections read)
    >>= λ s. Some s.number

-- a section is the one with that number, where there is such a number
abbrev pub is_numbered : Option ℕ → KeptSection → Bool
is_numbered number s = is_some_and (λ n. n == s.number) number
