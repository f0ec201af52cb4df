-- What takes memory of an image: its headers, the ends of its loaded segments, its sections.
use Rattle.std.specs.Prelude.{ℕ, ◌+◌, ◌-◌, ◌*◌, List, [], ◌∷◌, ◌++◌, length, map, Bool, true, false, ◌&&◌, ◌||◌, not, Option, Some, None, filter, find, nat_lt, nat_le, ◌==◌, if◌then◌else◌}
use Rattle.std.specs.List.{flat_map, list_any}
use Rattle.elf_format.specs.declared.constants.TheConstants.{SHF_TLS, SHT_DYNAMIC, SHT_NOBITS, SHT_NULL, SHT_STRTAB}
use Rattle.elf_format.specs.File.{loads_of}
use Rattle.elf_format.specs.Image.{Image, ImageSection}
use Rattle.elf_format.specs.Options.{list_at}
use Rattle.elf_format.specs.Placement.{file_part, is_stored, shows_at}
use Rattle.elf_format.specs.declared.range.Range.{Range}
use Rattle.elf_format.specs.Ranges.{lies_in, range}
use Rattle.elf_format.specs.declared.records.SegmentHeader.{SegmentHeader}
use Rattle.elf_format.specs.Records.{file_header_size, segment_header_size}
use Rattle.elf_format.specs.Places.{is_set, occupies_file, occupies_memory}
use Rattle.elf_layout_plan.specs.Blocks.{Block}
use Rattle.elf_image_headers.specs.Segments.{loads_end}
pub use Rattle.elf_image_headers.specs.Spare.{is_movable_type}
use Rattle.elf_tables.specs.Kept.{KeptSection, dynamic_strings_number, interpreter_number, is_numbered, kept_sections, place_at_read}

-- An image whose sections have new sizes, and the image that was read from its source.
pub record Resized : Type 0 where
  pub read : Image
  pub image : Image
  pub sizes : List ℕ

-- a section with its new size
pub record SizedSection : Type 0 where
  pub kept : KeptSection
  pub size : ℕ

abbrev pub sized_from : List KeptSection → List ℕ → List SizedSection
sized_from [] sizes = []
sized_from (s ∷ ss) [] = []
sized_from (s ∷ ss) (size ∷ sizes) = record { kept = s; size = size } ∷ sized_from ss sizes

-- the sections that are there, in order
abbrev pub sized_sections : Resized → List SizedSection
sized_sections r = sized_from (kept_sections r.image) r.sizes

-- ## The headers

-- the first loaded segment whose file part has all of the range
abbrev pub loaded_over : Range → List SegmentHeader → Option SegmentHeader
loaded_over part segments = find (λ p. lies_in part (file_part p)) (loads_of segments)

-- a block that never moves and is no section
abbrev pub fixed_block : ℕ → ℕ → Block
fixed_block start size = record { start = start; size = size; priority = 0; section = None; is_displaced = false; is_load_start = false }

-- the program header table as it was read, and the one with so many entries more than the image has segments
abbrev pub table_at_read : Resized → Range
table_at_read r = range r.read.header.e_phoff (length r.read.segments * segment_header_size r.read.form)

abbrev pub table_size_with : Resized → ℕ → ℕ
table_size_with r added = (length r.image.segments + added) * segment_header_size r.image.form

-- the loaded segment that had all of the program header table
abbrev pub table_load : Resized → Option SegmentHeader
table_load r = loaded_over (table_at_read r) r.read.segments

-- where a loaded segment has a range, and what stands there takes so many bytes
abbrev pub block_in_load : Range → ℕ → Option SegmentHeader → List Block
block_in_load part size load = list_at (λ p. fixed_block (p.p_vaddr + part.start - p.p_offset) size ∷ []) load

-- the file header and the program header table, each where a loaded segment had all of it at read
abbrev pub header_blocks : Resized → ℕ → List Block
header_blocks r added =
    let header = range 0 (file_header_size r.read.form) in
    block_in_load header header.size (loaded_over header r.read.segments)
    ++ block_in_load (table_at_read r) (table_size_with r added) (table_load r)

-- ## The loaded segments: none changes its addresses, nor how many of them it has in the file

abbrev pub edge_blocks : SegmentHeader → List Block
edge_blocks p =
    record (fixed_block p.p_vaddr 0) { is_load_start = true }
    ∷ fixed_block (p.p_vaddr + p.p_filesz) 0
    ∷ fixed_block (p.p_vaddr + p.p_memsz) 0
    ∷ []

-- ## The sections

-- uninitialized data of threads, which takes no memory of its own (gABI, Sections, SHF_TLS and SHT_NOBITS)
abbrev pub is_uninitialized_of_threads : ImageSection → Bool
is_uninitialized_of_threads s = s.sh_type == SHT_NOBITS && is_set SHF_TLS s.sh_flags

-- the section takes memory of its own
abbrev pub takes_memory : ImageSection → Bool
takes_memory s = occupies_memory (place_at_read s) && not (s.sh_type == SHT_NULL) && not (is_uninitialized_of_threads s)

-- nothing but tags and headers points to what is in it, so it may stand elsewhere; the dynamic section may where leave was given
abbrev pub is_movable : Image → KeptSection → Bool
is_movable image s =
    is_movable_type s.section.sh_type || s.section.sh_type == SHT_STRTAB && is_numbered (dynamic_strings_number image) s
    || s.section.sh_type == SHT_DYNAMIC && image.moves_dynamic

-- how readily a section moves: tables and notes first, with the dynamic section where it may, then the interpreter, nothing else
abbrev pub priority_of : Resized → KeptSection → ℕ
priority_of r s = if is_numbered (interpreter_number r.read) s then 1 else if is_movable r.image s then 2 else 0

-- no loaded segment that is there reaches as far as the address of a section with bytes: the one that it stood in went
abbrev pub has_lost_load : Image → ImageSection → Bool
has_lost_load image s = is_stored (place_at_read s) && nat_le (loads_end image.segments) s.sh_addr

-- no loaded segment shows the range of a section that was empty at its address, or the file header stands in it
abbrev pub is_out_of_loads : Resized → SizedSection → Bool
is_out_of_loads r s =
    let section = s.kept.section in
    let part = range section.sh_offset s.size in
    not (list_any (λ p. shows_at p part section.sh_addr) (loads_of r.image.segments)) || nat_lt section.sh_offset (file_header_size r.image.form)

-- a section of the file that has bytes now can't stand where it stood: it had none, and no loaded segment shows them there, or it lost
-- the loaded segment that it stood in
abbrev pub is_displaced : Resized → SizedSection → Bool
is_displaced r s =
    occupies_file (place_at_read s.kept.section) && not (s.size == 0)
    && (s.kept.section.sh_size == 0 && is_out_of_loads r s || has_lost_load r.image s.kept.section)

abbrev pub section_block : Resized → SizedSection → Block
section_block r s = record {
  start = s.kept.section.sh_addr;
  size = s.size;
  priority = priority_of r s.kept;
  section = Some s.kept.position;
  is_displaced = is_displaced r s;
  is_load_start = false;
}

-- Every block of the image, with a program header table of so many entries more than the image has segments.
unfoldable pub blocks_with : Resized → ℕ → List Block
blocks_with r added =
    header_blocks r added
    ++ flat_map edge_blocks (loads_of r.image.segments)
    ++ map (section_block r) (filter (λ s. takes_memory s.kept.section) (sized_sections r))
