-- The place of a section: what the rules of placement look at of its header. A section that no file has yet has a place too.
use Rattle.std.specs.Prelude.{ℕ, List, map, Bool, ◌&&◌, not, bit_and, ◌==◌}
use Rattle.elf_format.specs.declared.constants.TheConstants.{SHF_ALLOC, SHT_NOBITS, SHT_NULL}
use Rattle.elf_format.specs.Ranges.{Range, range}
use Rattle.elf_format.specs.Records.{SectionHeader}

-- What a section is, and where it stands in memory and in the file (gABI, Sections).
pub record Place : Type 0 where
  pub sh_type : ℕ
  pub sh_flags : ℕ
  pub sh_addr : ℕ
  pub sh_offset : ℕ
  pub sh_size : ℕ

abbrev pub place_of : SectionHeader → Place
place_of s = record {
  sh_type = s.sh_type;
  sh_flags = s.sh_flags;
  sh_addr = s.sh_addr;
  sh_offset = s.sh_offset;
  sh_size = s.sh_size;
}

abbrev pub places_of : List SectionHeader → List Place
places_of sections = map place_of sections

-- the bytes of the file that the place names
abbrev pub file_range : Place → Range
file_range s = range s.sh_offset s.sh_size

-- the addresses that the place takes
abbrev pub memory_range : Place → Range
memory_range s = range s.sh_addr s.sh_size

-- a flag is among flags
abbrev pub is_set : ℕ → ℕ → Bool
is_set flag flags = not (bit_and flags flag == 0)

-- the section takes up memory when the program runs (gABI, Sections, SHF_ALLOC)
abbrev pub occupies_memory : Place → Bool
occupies_memory s = is_set SHF_ALLOC s.sh_flags

-- the section takes up bytes of the file (gABI, Sections, SHT_NULL and SHT_NOBITS don't)
abbrev pub occupies_file : Place → Bool
occupies_file s = not (s.sh_type == SHT_NULL) && not (s.sh_type == SHT_NOBITS)
