-- Where segments and sections stand: the words are about lists of segments and of the sections' places, whatever file they
-- come from, or none.
use Rattle.std.specs.Prelude.{ℕ, ◌+◌, List, map, filter, Bool, ◌&&◌, ◌||◌, not, nat_le, nat_lt, ◌==◌}
use Rattle.std.specs.List.{list_all, list_any}
use Rattle.elf_format.specs.declared.constants.TheConstants.{PT_PHDR, SHF_TLS, SHT_NOBITS}
use Rattle.elf_format.specs.File.{is_loaded, loads_of}
use Rattle.elf_format.specs.Places.{Place, file_range, is_set, memory_range, occupies_file, occupies_memory}
use Rattle.elf_format.specs.Ranges.{Range, all_apart, apart, end_of, lies_in, range}
use Rattle.elf_format.specs.Records.{SegmentHeader}

-- the bytes of the file that a segment covers (gABI, Program Header, p_offset and p_filesz)
abbrev pub file_part : SegmentHeader → Range
file_part p = range p.p_offset p.p_filesz

-- the addresses that a segment takes (gABI, Program Header, p_vaddr and p_memsz)
abbrev pub memory_part : SegmentHeader → Range
memory_part p = range p.p_vaddr p.p_memsz

-- where a segment's file part ends in memory
abbrev pub file_end : SegmentHeader → ℕ
file_end p = p.p_vaddr + p.p_filesz

-- a range ends at the n-th place or before
abbrev pub ends_by : ℕ → Range → Bool
ends_by n r = nat_le (end_of r) n

-- the bytes of each section and of each loaded segment lie in a file of that length
abbrev pub ranges_in_file : ℕ → List SegmentHeader → List Place → Bool
ranges_in_file length segments places =
    list_all (λ s. ends_by length (file_range s)) (filter occupies_file places)
    && list_all (λ p. ends_by length (file_part p)) (loads_of segments)

-- no segment that is loaded takes more bytes of the file than addresses (gABI, Program Header, p_memsz)
abbrev pub file_parts_fit : List SegmentHeader → Bool
file_parts_fit segments = list_all (λ p. nat_le p.p_filesz p.p_memsz) (loads_of segments)

-- loaded segments share no address
abbrev pub addresses_apart : List SegmentHeader → Bool
addresses_apart segments = all_apart (map memory_part (loads_of segments))

-- loaded segments share no address and no byte of the file
abbrev pub segments_apart : List SegmentHeader → Bool
segments_apart segments = addresses_apart segments && all_apart (map file_part (loads_of segments))

-- an allocated section that has bytes, and has them in the file
abbrev pub is_stored : Place → Bool
is_stored s = occupies_memory s && occupies_file s && not (s.sh_size == 0)

-- the bytes of the file that stored sections take
abbrev pub stored_ranges : List Place → List Range
stored_ranges places = map file_range (filter is_stored places)

-- the range lies in the file part of the segment, as far from the start of that as an address from the segment's own
abbrev pub shows_at : SegmentHeader → Range → ℕ → Bool
shows_at p r address = lies_in r (file_part p) && (address + p.p_offset) == (p.p_vaddr + r.start)

-- the segment has the section's bytes in its file part, and shows them at the section's address
abbrev pub holds : SegmentHeader → Place → Bool
holds p s = shows_at p (file_range s) s.sh_addr

-- each stored section is held by a loaded segment, and doesn't begin at the file's start
abbrev pub sections_held : List SegmentHeader → List Place → Bool
sections_held segments places =
    list_all (λ s. list_any (λ p. holds p s) (loads_of segments) && not (s.sh_offset == 0)) (filter is_stored places)

-- where there is an allocated section there is a loaded segment
abbrev pub something_loaded : List SegmentHeader → List Place → Bool
something_loaded segments places = not (list_any occupies_memory places) || list_any is_loaded segments

-- stored sections share no byte of the file with ranges of headers and tables
abbrev pub stored_clear_of : List Range → List Place → Bool
stored_clear_of headers places = list_all (λ h. list_all (λ r. apart h r) (stored_ranges places)) headers

-- stored sections share no byte of the file with each other or with headers
abbrev pub stored_apart : List Range → List Place → Bool
stored_apart headers places = all_apart (stored_ranges places) && stored_clear_of headers places

-- stored sections are held by segments, apart from each other and from headers
abbrev pub sections_loaded : List Range → List SegmentHeader → List Place → Bool
sections_loaded headers segments places =
    sections_held segments places && something_loaded segments places && stored_apart headers places

-- the allocated sections without bytes in the file, those of threads apart (gABI, Sections, SHT_NOBITS, SHF_TLS)
abbrev pub is_uninitialized : Place → Bool
is_uninitialized s = s.sh_type == SHT_NOBITS && occupies_memory s && not (is_set SHF_TLS s.sh_flags)

-- the end of a segment's file part lies inside the addresses of a section
abbrev pub crosses_file_end : SegmentHeader → Place → Bool
crosses_file_end p s = nat_lt s.sh_addr (file_end p) && nat_lt (file_end p) (end_of (memory_range s))

-- no uninitialized section crosses the end of a loaded segment's file part
abbrev pub uninitialized_clear : List SegmentHeader → List Place → Bool
uninitialized_clear segments places =
    list_all (λ s. list_all (λ p. not (crosses_file_end p s)) (loads_of segments)) (filter is_uninitialized places)

-- a program that is told where its program headers are finds them in a loaded segment (gABI, Program
-- Header, PT_PHDR)
abbrev pub header_table_loaded : Range → List SegmentHeader → Bool
header_table_loaded table segments =
    not (list_any (λ p. p.p_type == PT_PHDR) segments) || list_any (λ p. lies_in table (file_part p)) (loads_of segments)
