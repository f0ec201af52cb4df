-- The sections of an image by the numbers that program headers are followed with.
use Rattle.std.specs.Prelude.{ℕ, ◌≡◌, List, length, map, find, filter, Bool, true, ◌&&◌, not, Option, ◌==◌}
use Rattle.std.specs.Option.{option_map}
use Rattle.elf_format.specs.declared.constants.TheConstants.{SHT_NOTE}
use Rattle.elf_format.specs.Image.{Image}
use Rattle.elf_format.specs.Placement.{file_part}
use Rattle.elf_format.specs.Places.{Place, file_range, occupies_file, occupies_memory}
use Rattle.elf_format.specs.declared.range.Range.{Range}
use Rattle.elf_format.specs.Ranges.{apart, lies_in}
use Rattle.elf_format.specs.declared.records.SegmentHeader.{SegmentHeader}
use Rattle.elf_layout_plan.specs.Anchors.{is_over_notes, notes_under}
use Rattle.elf_image.specs.Kept.{KeptSection, kept_sections}
use Rattle.elf_layout_plan.specs.Memory.{Resized}
use Rattle.elf_layout_segments.specs.declared.sections.SectionAt.{SectionAt}
use Rattle.elf_layout_segments.specs.declared.sections.Wanted.{Wanted}
use Rattle.elf_layout_segments.specs.declared.sections.Wanted.TheVariants.{Numbered, OfType}
use Rattle.elf_layout_segments.specs.InOrder.{is_in}

-- a section without its name and its bytes
abbrev pub section_at : KeptSection → SectionAt
section_at s = record {
  position = s.position;
  number = s.number;
  sh_type = s.section.sh_type;
  sh_flags = s.section.sh_flags;
  sh_addr = s.section.sh_addr;
  sh_offset = s.section.sh_offset;
  sh_size = s.section.sh_size;
}

-- the sections that are there, in order
abbrev pub indexed_sections : Image → List SectionAt
indexed_sections image = map section_at (kept_sections image)

abbrev pub place_at : SectionAt → Place
place_at s = record { sh_type = s.sh_type; sh_flags = s.sh_flags; sh_addr = s.sh_addr; sh_offset = s.sh_offset; sh_size = s.sh_size }

-- the section has bytes in the file
abbrev pub has_bytes_at : SectionAt → Bool
has_bytes_at s = occupies_file (place_at s) && not (s.sh_size == 0)

-- the bytes of the file that the program header covers are just the section's
abbrev pub is_just_over_at : SegmentHeader → SectionAt → Bool
is_just_over_at p s = has_bytes_at s && s.sh_offset == p.p_offset && s.sh_size == p.p_filesz

-- the section shares a byte of the file with the program header
abbrev pub shares_bytes_at : SegmentHeader → SectionAt → Bool
shares_bytes_at p s = has_bytes_at s && not (apart (file_range (place_at s)) (file_part p))

abbrev pub is_loaded_note_at : SectionAt → Bool
is_loaded_note_at s = s.sh_type == SHT_NOTE && occupies_memory (place_at s)

-- the section is a loaded note section that the program header has all of
abbrev pub is_note_at : SegmentHeader → SectionAt → Bool
is_note_at p s = is_loaded_note_at s && lies_in (file_range (place_at s)) (file_part p)

-- the section has bytes in the file, and the first of them lies in the range
abbrev pub begins_in : Range → SectionAt → Bool
begins_in part s = has_bytes_at s && is_in part s.sh_offset

-- where the sections stand
abbrev pub positions_at : List SectionAt → List ℕ
positions_at sections = map (λ (s : SectionAt). s.position) sections

-- where the sections stand that begin in a range
abbrev pub positions_in : List SectionAt → Range → List ℕ
positions_in sections part = positions_at (filter (begins_in part) sections)

-- where the first section stands that passes a test
abbrev pub first_at : (SectionAt → Bool) → List SectionAt → Option ℕ
first_at test sections = option_map (λ (s : SectionAt). s.position) (find test sections)

-- the section is of the kind that is wanted
abbrev pub is_wanted : Wanted → SectionAt → Bool
is_wanted (OfType type) s = s.sh_type == type
is_wanted (Numbered number) s = number == s.number

-- where the first such section stands
abbrev pub first_wanted : Wanted → List SectionAt → Option ℕ
first_wanted wanted sections = first_at (is_wanted wanted) sections

-- Each section has a number at read and a size; where a program header is over notes, those are the sections that begin in it.
pub record AreSized (r : Resized) : Type 0 where
  pub numbered : length r.image.section_numbers ≡ length r.image.sections
  pub sized : length r.sizes ≡ length r.image.sections
  pub notes : (p : SegmentHeader) → is_over_notes r.read p ≡ true
      → map (λ (s : KeptSection). s.position) (notes_under r.read r.image p) ≡ positions_in (indexed_sections r.image) (file_part p)
