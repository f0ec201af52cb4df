-- What a file is made of: its identification, its header and its two header tables.
use Rattle.std.specs.Prelude.{ℕ, ◌+◌, ◌-◌, ◌*◌, ◌/◌, min, List, [], length, drop, slice_index, Bool, Option, Some, None, nat_le, ◌==◌, if◌then◌else◌, filter, find}
use Rattle.std.specs.List.{slice_get}
use Rattle.patch_bytes.specs.declared.number.ByteOrder2.{ByteOrder2}
use Rattle.patch_bytes.specs.declared.number.ByteOrder2.TheVariants.{Big, Little}
use Rattle.patch_bytes.specs.declared.number.Wide.{Wide}
use Rattle.patch_bytes.specs.declared.number.Wide.TheVariants.{W32, W64}
use Rattle.patch_bytes.specs.Number.{field}
use Rattle.patch_bytes.specs.Memory.{◌>>=◌}
use Rattle.elf_format.specs.declared.constants.TheConstants.{ELFCLASS32, ELFCLASS64, ELFDATA2LSB, ELFDATA2MSB, EV_CURRENT, PT_LOAD}
use Rattle.elf_format.specs.Form.{Form, records}
use Rattle.elf_format.specs.Places.{is_set, occupies_file, occupies_memory, place_of}
use Rattle.elf_format.specs.Records.{FileHeader, SectionHeader, SegmentHeader, file_header, file_header_size, section_header, section_header_size, segment_header, segment_header_size}

-- the bytes of a range of the file, where it lies in it
abbrev pub bytes_in : List ℕ → ℕ → ℕ → Option (List ℕ)
bytes_in file offset size = if nat_le (offset + size) (length file) then Some (field size offset file) else None

-- the class (gABI, ELF Identification, EI_CLASS)
abbrev pub class_of : ℕ → Option Wide
class_of byte = if byte == ELFCLASS32 then Some W32 else if byte == ELFCLASS64 then Some W64 else None

-- the byte order (gABI, ELF Identification, EI_DATA)
abbrev pub order_of : ℕ → Option ByteOrder2
order_of byte = if byte == ELFDATA2LSB then Some Little else if byte == ELFDATA2MSB then Some Big else None

-- class, byte order and version (gABI, ELF Identification), where they are known
abbrev pub form_of : List ℕ → Option Form
form_of file = do
  wide ← class_of (slice_index file 4)
  order ← order_of (slice_index file 5)
  if slice_index file 6 == EV_CURRENT then Some (record { wide = wide; order = order }) else None

-- A file whose header could be read.
pub record Opened : Type 0 where
  pub file : List ℕ
  pub form : Form
  pub header : FileHeader

unfoldable pub opened_of : List ℕ → Option Opened
opened_of file = do
  form ← form_of file
  bytes ← bytes_in file 0 (file_header_size form)
  Some (record { file = file; form = form; header = file_header form bytes })

-- the program header table (gABI, Program Header), where it lies in the file
unfoldable pub segments_of : Opened → Option (List SegmentHeader)
segments_of o = do
  bytes ← bytes_in o.file o.header.e_phoff (o.header.e_phnum * segment_header_size o.form)
  Some (records (segment_header o.form) (segment_header_size o.form) o.header.e_phnum bytes)

-- the section header table (gABI, Sections), where it lies in the file
unfoldable pub sections_of : Opened → Option (List SectionHeader)
sections_of o = do
  bytes ← bytes_in o.file o.header.e_shoff (o.header.e_shnum * section_header_size o.form)
  Some (records (section_header o.form) (section_header_size o.form) o.header.e_shnum bytes)

-- the section headers that lie in the file
unfoldable pub sections_there : Opened → List SectionHeader
sections_there o =
    let size = section_header_size o.form in
    let count = min o.header.e_shnum ((length o.file - o.header.e_shoff) / size) in
    records (section_header o.form) size count (drop o.header.e_shoff o.file)

-- A file whose two header tables could be read.
pub record Parts : Type 0 where
  pub opened : Opened
  pub segments : List SegmentHeader
  pub sections : List SectionHeader

unfoldable pub parts_of : Opened → Option Parts
parts_of o = do
  segments ← segments_of o
  sections ← sections_of o
  Some (record { opened = o; segments = segments; sections = sections })

-- the segment is loaded (gABI, Program Header, PT_LOAD)
abbrev pub is_loaded : SegmentHeader → Bool
is_loaded p = p.p_type == PT_LOAD

-- the segments that are loaded
abbrev pub loads_of : List SegmentHeader → List SegmentHeader
loads_of segments = filter is_loaded segments

-- the first segment of a type
abbrev pub segment_of_type : ℕ → List SegmentHeader → Option SegmentHeader
segment_of_type type segments = find (λ p. p.p_type == type) segments

-- the first section of a type
abbrev pub section_of_type : ℕ → List SectionHeader → Option SectionHeader
section_of_type type sections = find (λ s. s.sh_type == type) sections

-- the section that another names by its sh_link (gABI, Sections, sh_link and sh_info)
abbrev pub linked_section : List SectionHeader → SectionHeader → Option SectionHeader
linked_section sections s = slice_get sections s.sh_link

abbrev pub has_flag : ℕ → SectionHeader → Bool
has_flag flag s = is_set flag s.sh_flags

-- the section takes up memory when the program runs
abbrev pub is_allocated : SectionHeader → Bool
is_allocated s = occupies_memory (place_of s)

-- the section takes up bytes of the file
abbrev pub has_file_bytes : SectionHeader → Bool
has_file_bytes s = occupies_file (place_of s)

-- the bytes of the file that a section header names
unfoldable pub section_bytes : List ℕ → SectionHeader → List ℕ
section_bytes file s = if has_file_bytes s then field s.sh_size s.sh_offset file else []
