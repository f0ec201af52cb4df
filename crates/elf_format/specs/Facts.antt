-- What the read rules mean, in words about places, segments and sections instead of tests.
use Rattle.std.specs.Prelude.{ℕ, ◌+◌, ◌≤◌, ◌<◌, ◌≡◌, ◌≢◌, ◌⊎◌, List, map, length, Some, None, IsTrue, Decides, All, Any, AllPairs}
use Rattle.std.specs.List.{slice_get}
use Rattle.patch_bytes.specs.Memory.{memory_of}
use Rattle.elf_format.specs.declared.constants.TheConstants.{DT_STRTAB, PT_DYNAMIC, PT_INTERP, PT_PHDR, SHT_DYNAMIC, SHT_PROGBITS}
use Rattle.elf_format.specs.Dynamic.{entries_at, value_of_tag}
use Rattle.elf_format.specs.File.{Parts, is_allocated, is_loaded, linked_section, loads_of, section_bytes, section_of_type, segment_of_type}
use Rattle.elf_format.specs.Placement.{file_end, file_part, file_parts_fit, header_table_loaded, is_stored, is_uninitialized, memory_part, ranges_in_file, sections_loaded, segments_apart, stored_ranges, uninitialized_clear}
use Rattle.elf_format.specs.Places.{Place, file_range, memory_range, occupies_file, occupies_memory, places_of}
use Rattle.elf_format.specs.Ranges.{Range, end_of}
use Rattle.elf_format.specs.Records.{SectionHeader, SegmentHeader}
use Rattle.elf_format.specs.Rules.{MeetsRules, file_of, header_ranges, raw_entries, segment_table_range}

-- a position in a range
pub record IsInRange (r : Range) (position : ℕ) : Type 0 where
  pub from_start : r.start ≤ position
  pub before_end : position < end_of r

-- no position is in both
abbrev pub SharesNothing : Range → Range → Type 0
SharesNothing r s = (position : ℕ) → IsInRange r position → IsInRange s position → ⊥

-- the first range begins and ends in the second, an empty one too
pub record LiesIn (r outer : Range) : Type 0 where
  pub begins : outer.start ≤ r.start
  pub ends : end_of r ≤ end_of outer

-- the segment has the range in its file part, and shows its bytes from an address on: as far from the segment's address as
-- they are from its offset (gABI, Program Header)
pub record ShowsAt (p : SegmentHeader) (r : Range) (address : ℕ) : Type 0 where
  pub inside : LiesIn r (file_part p)
  pub distance : address + p.p_offset ≡ p.p_vaddr + r.start

-- the bytes of each section and of each loaded segment lie in a file of that length
pub record AreRangesInFile (size : ℕ) (segments : List SegmentHeader) (places : List Place) : Type 0 where
  pub sections_lie : All (λ s. IsTrue (occupies_file s) → end_of (file_range s) ≤ size) places
  pub segments_lie : All (λ p. end_of (file_part p) ≤ size) (loads_of segments)

-- a loaded segment takes no more bytes of the file than addresses
abbrev pub DoFilePartsFit : List SegmentHeader → Type 0
DoFilePartsFit segments = All (λ p. p.p_filesz ≤ p.p_memsz) (loads_of segments)

-- loaded segments share no address and no byte of the file
pub record AreSegmentsApart (segments : List SegmentHeader) : Type 0 where
  pub addresses_apart : AllPairs SharesNothing (map memory_part (loads_of segments))
  pub bytes_apart : AllPairs SharesNothing (map file_part (loads_of segments))

-- a loaded segment shows the section at its address, and the section doesn't begin at the file's start
pub record IsHeld (segments : List SegmentHeader) (s : Place) : Type 0 where
  pub by_load : Any (λ p. ShowsAt p (file_range s) s.sh_addr) (loads_of segments)
  pub not_first : s.sh_offset ≢ 0

-- each stored section is held, with an allocated section there is a loaded segment, and stored sections share no byte of the
-- file with each other or with headers
pub record AreSectionsLoaded (headers : List Range) (segments : List SegmentHeader) (places : List Place) : Type 0 where
  pub held : All (λ s. IsTrue (is_stored s) → IsHeld segments s) places
  pub something : Any (λ s. IsTrue (occupies_memory s)) places → Any (λ p. IsTrue (is_loaded p)) segments
  pub stored_apart : AllPairs SharesNothing (stored_ranges places)
  pub headers_apart : All (λ h. All (SharesNothing h) (stored_ranges places)) headers

-- each uninitialized section begins where a loaded segment's file part ends or behind that, or ends there or before
abbrev pub IsUninitializedClear : List SegmentHeader → List Place → Type 0
IsUninitializedClear segments places =
    All (λ s. IsTrue (is_uninitialized s) → All (λ p. (file_end p ≤ s.sh_addr) ⊎ (end_of (memory_range s) ≤ file_end p)) (loads_of segments)) places

-- where a segment says where the program header table is, the table lies in a loaded segment
abbrev pub IsHeaderTableLoaded : Range → List SegmentHeader → Type 0
IsHeaderTableLoaded table segments = Any (λ p. p.p_type ≡ PT_PHDR) segments → Any (λ p. LiesIn table (file_part p)) (loads_of segments)

-- the law: each test of placement passes just where what it means is so
pub record PlacementTestsMean : Type 0 where
  pub in_file : (size : ℕ) (segments : List SegmentHeader) (places : List Place)
      → Decides (ranges_in_file size segments places) (AreRangesInFile size segments places)
  pub fit : (segments : List SegmentHeader) → Decides (file_parts_fit segments) (DoFilePartsFit segments)
  pub apart : (segments : List SegmentHeader) → Decides (segments_apart segments) (AreSegmentsApart segments)
  pub loaded : (headers : List Range) (segments : List SegmentHeader) (places : List Place)
      → Decides (sections_loaded headers segments places) (AreSectionsLoaded headers segments places)
  pub clear : (segments : List SegmentHeader) (places : List Place)
      → Decides (uninitialized_clear segments places) (IsUninitializedClear segments places)
  pub header_table : (table : Range) (segments : List SegmentHeader)
      → Decides (header_table_loaded table segments) (IsHeaderTableLoaded table segments)

-- Where the segments and sections of an accepted file stand.
pub record ArePlaced (size : ℕ) (headers : List Range) (segments : List SegmentHeader) (places : List Place) : Type 0 where
  pub in_file : AreRangesInFile size segments places
  pub fit : DoFilePartsFit segments
  pub apart : AreSegmentsApart segments
  pub loaded : AreSectionsLoaded headers segments places
  pub clear : IsUninitializedClear segments places

-- The dynamic section of an accepted file (gABI, Dynamic Section): it stands where PT_DYNAMIC says, is allocated, and names
-- its own string table, which is allocated too.
pub record IsDynamicSection (p : Parts) (list : SectionHeader) : Type 0 where
  pub segment : SegmentHeader
  pub is_segment : segment_of_type PT_DYNAMIC p.segments ≡ Some segment
  pub same_offset : segment.p_offset ≡ list.sh_offset
  pub same_address : segment.p_vaddr ≡ list.sh_addr
  pub allocated : IsTrue (is_allocated list)
  pub entries : entries_at (length (file_of p)) p.opened.form (memory_of (section_bytes (file_of p) list)) 0 ≡ Some (raw_entries p)
  pub strings : SectionHeader
  pub is_strings : linked_section p.sections list ≡ Some strings
  pub strings_allocated : IsTrue (is_allocated strings)
  pub strings_named : value_of_tag DT_STRTAB (raw_entries p) ≡ Some strings.sh_addr

-- The interpreter of an accepted file (gABI, Program Interpreter): the bytes that PT_INTERP covers are a section's.
pub record IsInterpreter (p : Parts) (segment : SegmentHeader) : Type 0 where
  pub section : SectionHeader
  pub number : ℕ
  pub is_section : slice_get p.sections number ≡ Some section
  pub type : section.sh_type ≡ SHT_PROGBITS
  pub same_offset : section.sh_offset ≡ segment.p_offset
  pub same_address : section.sh_addr ≡ segment.p_vaddr
  pub same_size : section.sh_size ≡ segment.p_filesz

-- What the rules mean for the parts of an accepted file.
pub record RulesMean (p : Parts) : Type 0 where
  pub placed : ArePlaced (length (file_of p)) (header_ranges p) p.segments (places_of p.sections)
  pub header_table : IsHeaderTableLoaded (segment_table_range p) p.segments
  pub dynamic : (list : SectionHeader) → section_of_type SHT_DYNAMIC p.sections ≡ Some list → IsDynamicSection p list
  pub no_dynamic : section_of_type SHT_DYNAMIC p.sections ≡ None → segment_of_type PT_DYNAMIC p.segments ≡ None
  pub interpreter : (segment : SegmentHeader) → segment_of_type PT_INTERP p.segments ≡ Some segment → IsInterpreter p segment

-- the law: from the tests to what they mean
abbrev pub TestsMean : Type 0
TestsMean = (p : Parts) → MeetsRules p → RulesMean p
