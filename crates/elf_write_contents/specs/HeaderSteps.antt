-- The steps towards the section headers that are written.
use Rattle.std.specs.Prelude.{ℕ, ◌≡◌, List, length, Option, Some, ◌==◌, if◌then◌else◌}
use Rattle.std.specs.List.{slice_get}
use Rattle.patch_bytes.specs.Memory.{◌>>=◌}
use Rattle.elf_format.specs.declared.constants.TheConstants.{SHT_DYNSYM, SHT_GNU_VERDEF, SHT_GNU_VERNEED, SHT_SYMTAB}
use Rattle.elf_format.specs.declared.records.SectionHeader.{SectionHeader}
use Rattle.elf_format.specs.File.{opened_of, sections_of}
use Rattle.elf_format.specs.Image.{Image, ImageSection}
use Rattle.elf_format.specs.Places.{Place}
use Rattle.elf_image.specs.Kept.{KeptSection, image_at_read}
use Rattle.elf_layout_plan.specs.Memory.{Resized}
use Rattle.elf_write_spec.specs.Final.{final, new_number}
use Rattle.elf_write_spec.specs.Headers.{IsHeaderOf, behind_locals, is_info_number}
use Rattle.elf_write_contents.specs.declared.headers.Known.{Known}

-- the section headers that were read
abbrev pub headers_read : Image → Option (List SectionHeader)
headers_read image = opened_of image.source >>= sections_of

-- what is known of the image as a whole is right
pub record IsKnown (image : Image) (known : Known) : Type 0 where
  pub symbols : known.symbols ≡ behind_locals (final (image_at_read image) image).symbols
  pub dynamic_symbols : known.dynamic_symbols ≡ behind_locals (final (image_at_read image) image).dynamic_symbols
  pub needs : known.needs ≡ length (final (image_at_read image) image).needs
  pub headers : headers_read image ≡ Some known.headers.items

-- the number in sh_info of a table that is made of the image's lists, by what is known of these
abbrev pub info_by : Known → Image → ImageSection → ℕ
info_by known image s =
    if s.sh_type == SHT_SYMTAB then known.symbols
    else if s.sh_type == SHT_DYNSYM then known.dynamic_symbols
    else if s.sh_type == SHT_GNU_VERDEF then length image.definitions
    else if s.sh_type == SHT_GNU_VERNEED then known.needs
    else if is_info_number s then new_number image s.sh_info
    else s.sh_info

-- a section's header at a place, its name at a place of the names, with the numbers that it names other sections by
abbrev pub header_by : ImageSection → Place → ℕ → ℕ → ℕ → SectionHeader
header_by s place name link info = record {
  sh_name = name;
  sh_type = s.sh_type;
  sh_flags = s.sh_flags;
  sh_addr = place.sh_addr;
  sh_offset = place.sh_offset;
  sh_size = place.sh_size;
  sh_link = link;
  sh_info = info;
  sh_addralign = s.sh_addralign;
  sh_entsize = s.sh_entsize;
}

-- the header of the section at a position, which stands at the place there
abbrev pub IsHeaderAt : Resized → List ℕ → List KeptSection → List Place → ℕ → SectionHeader → Type 0
IsHeaderAt r names ss ps i h =
    (s : KeptSection) × (p : Place) × (slice_get ss i ≡ Some s) × (slice_get ps i ≡ Some p) × IsHeaderOf r names s.section p h

-- the headers of so many sections
pub record AreMade (r : Resized) (names : List ℕ) (ss : List KeptSection) (ps : List Place) (hs : List SectionHeader) (i : ℕ) : Type 0 where
  pub count : length hs ≡ i
  pub each : (j : ℕ) (h : SectionHeader) → slice_get hs j ≡ Some h → IsHeaderAt r names ss ps j h
