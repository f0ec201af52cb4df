-- Where parts of a file stand in its image, by the numbers that they had at read.
use Rattle.std.specs.Prelude.{ℕ, ◌≡◌, ◌==◌, length, position, Option, Ok}
use Rattle.std.specs.List.{slice_get}
use Rattle.patch_bytes.specs.Memory.{◌>>=◌}
use Rattle.elf_format.specs.declared.constants.TheConstants.{PT_INTERP, SHT_DYNAMIC, SHT_DYNSYM}
use Rattle.elf_format.specs.File.{segment_of_type}
use Rattle.elf_format.specs.Image.{Image, image_of}
use Rattle.elf_format.specs.Options.{first_there}
use Rattle.elf_image_headers.specs.Spare.{stands_as_interpreter}

-- the section that had a number at read
abbrev pub section_position : Image → ℕ → Option ℕ
section_position image number = position (λ n. n == number) image.section_numbers

-- the section that the one at a position names by its sh_link, a number of read (gABI, Sections)
abbrev pub link_position : Image → ℕ → Option ℕ
link_position image i = slice_get image.sections i >>= (λ s. section_position image s.sh_link)

-- the first section of a type
abbrev pub type_position : Image → ℕ → Option ℕ
type_position image type = position (λ s. s.sh_type == type) image.sections

-- the first section that stands where PT_INTERP says
abbrev pub interpreter_position : Image → Option ℕ
interpreter_position image = segment_of_type PT_INTERP image.segments >>= (λ p. position (stands_as_interpreter p) image.sections)

-- the section whose texts are the dynamic strings: the dynamic list links to it, or without a list the dynamic symbols
abbrev pub dynamic_strings_position : Image → Option ℕ
dynamic_strings_position image =
    first_there (type_position image SHT_DYNAMIC) (type_position image SHT_DYNSYM) >>= (λ i. link_position image i)

-- so many program headers were read from the image's source
abbrev pub CountsReadSegments : Image → ℕ → Type 0
CountsReadSegments image count = (read : Image) → image_of image.source ≡ Ok read → count ≡ length read.segments
