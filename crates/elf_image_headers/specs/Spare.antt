-- Spare segments: loaded ones that stand behind all that has to stay, and of which each byte but zeros is one of a section that can move.
-- An edit that moved sections added them, and the next one may lay those sections out anew in their place.
use Rattle.std.specs.Prelude.{ℕ, ◌+◌, max, List, [], ◌∷◌, filter, fold, map, Bool, ◌&&◌, ◌||◌, not, Option, Some, find, nat_le, nat_lt, ◌==◌, if◌then◌else◌, count_by, sum_by}
use Rattle.std.specs.List.{list_any}
use Rattle.elf_format.specs.Memory.{◌>>=◌}
use Rattle.elf_format.specs.Number.{field}
use Rattle.elf_format.specs.declared.constants.TheConstants.{PT_DYNAMIC, PT_GNU_PROPERTY, PT_GNU_STACK, PT_INTERP, PT_LOAD, PT_NOTE, SHF_ALLOC, SHT_DYNAMIC, SHT_DYNSYM, SHT_GNU_HASH, SHT_GNU_VERDEF, SHT_GNU_VERNEED, SHT_GNU_VERSYM, SHT_HASH, SHT_NOTE, SHT_PROGBITS, SHT_STRTAB}
use Rattle.elf_format.specs.declared.records.SegmentHeader.{SegmentHeader}
use Rattle.elf_format.specs.File.{is_loaded, segment_of_type}
use Rattle.elf_format.specs.Image.{ImageSection}
use Rattle.elf_format.specs.Options.{first_there, is_one_of, is_some_and}
use Rattle.elf_format.specs.Placement.{memory_part}
use Rattle.elf_format.specs.Places.{is_set}
use Rattle.elf_format.specs.Ranges.{end_of}
use Rattle.elf_image_headers.specs.Segments.{loads_end}
use Rattle.elf_image_headers.specs.declared.segment.TheConstants.{MOST_SEGMENTS}

-- What decides on them: the program headers, the sections with their numbers at read, where the program header table stands in the
-- file, and the file's bytes.
pub record SpareFacts : Type 0 where
  pub segments : List SegmentHeader
  pub sections : List ImageSection
  pub numbers : List ℕ
  pub table : ℕ
  pub source : List ℕ

-- ## Sections that can move

-- every section of the type can: nothing but tags and headers points to what is in it
abbrev pub is_movable_type : ℕ → Bool
is_movable_type type = is_one_of (SHT_NOTE ∷ SHT_DYNSYM ∷ SHT_HASH ∷ SHT_GNU_HASH ∷ SHT_GNU_VERSYM ∷ SHT_GNU_VERDEF ∷ SHT_GNU_VERNEED ∷ []) type

-- the number of the section that the first of a type links to (gABI, Sections, sh_link)
abbrev pub link_in_sections : ℕ → List ImageSection → Option ℕ
link_in_sections type sections = find (λ s. s.sh_type == type) sections >>= λ s. Some s.sh_link

-- the number of the section with the dynamic strings
abbrev pub strings_number : List ImageSection → Option ℕ
strings_number sections = first_there (link_in_sections SHT_DYNAMIC sections) (link_in_sections SHT_DYNSYM sections)

-- a section stands where PT_INTERP says (gABI, Program Header, PT_INTERP)
abbrev pub stands_as_interpreter : SegmentHeader → ImageSection → Bool
stands_as_interpreter p s = s.sh_type == SHT_PROGBITS && s.sh_offset == p.p_offset && s.sh_addr == p.p_vaddr && s.sh_size == p.p_filesz

-- the section that had that number at read can move, the dynamic section with leave
abbrev pub can_move : Option ℕ → Option SegmentHeader → ℕ → ImageSection → Bool
can_move strings interpreter number s =
    is_movable_type s.sh_type || s.sh_type == SHT_DYNAMIC
    || s.sh_type == SHT_STRTAB && is_some_and (λ n. n == number) strings
    || is_some_and (λ p. stands_as_interpreter p s) interpreter

-- ## What has to stay

-- a program header that is neither for what is loaded nor for sections that can move
abbrev pub is_fixed_segment : SegmentHeader → Bool
is_fixed_segment p = not (is_one_of (PT_LOAD ∷ PT_DYNAMIC ∷ PT_INTERP ∷ PT_NOTE ∷ PT_GNU_PROPERTY ∷ []) p.p_type)

-- where a section ends that takes memory and can't move; 0 for any other one
abbrev pub fixed_section_end : Option ℕ → Option SegmentHeader → ℕ → ImageSection → ℕ
fixed_section_end strings interpreter number s =
    if is_set SHF_ALLOC s.sh_flags && not (can_move strings interpreter number s) then s.sh_addr + s.sh_size else 0

-- the greatest of a number and of these ends
unfoldable pub fixed_sections_end : Option ℕ → Option SegmentHeader → ℕ → List ℕ → List ImageSection → ℕ
fixed_sections_end strings interpreter end [] sections = end
fixed_sections_end strings interpreter end (n ∷ ns) [] = end
fixed_sections_end strings interpreter end (n ∷ ns) (s ∷ ss) =
    fixed_sections_end strings interpreter (max (fixed_section_end strings interpreter n s) end) ns ss

-- where all that ends in memory which has to stay and isn't a loaded segment
unfoldable pub fixed_end : SpareFacts → ℕ
fixed_end f =
    let segments = fold max 0 (map (λ p. end_of (memory_part p)) (filter is_fixed_segment f.segments)) in
    fixed_sections_end (strings_number f.sections) (segment_of_type PT_INTERP f.segments) segments f.numbers f.sections

-- ## The loaded segments

-- a place of the file lies in a segment's file part
abbrev pub has_place : ℕ → SegmentHeader → Bool
has_place position p = nat_le p.p_offset position && nat_lt position (p.p_offset + p.p_filesz)

-- a loaded segment that starts behind an end, with bytes of the file for all of its memory and neither of the file's headers
abbrev pub could_be_spare : ℕ → ℕ → SegmentHeader → Bool
could_be_spare end table p =
    is_loaded p && p.p_filesz == p.p_memsz && not (p.p_filesz == 0) && not (p.p_offset == 0) && not (has_place table p)
    && nat_le end p.p_vaddr

-- where the other loaded segments end
unfoldable pub others_end : SpareFacts → ℕ
others_end f = loads_end (filter (λ p. not (could_be_spare (fixed_end f) f.table p)) f.segments)

-- a segment is spare: it starts behind the other loaded segments too
abbrev pub is_spare : SpareFacts → SegmentHeader → Bool
is_spare f p = could_be_spare (fixed_end f) f.table p && nat_le (others_end f) p.p_vaddr

abbrev pub without_spare : SpareFacts → List SegmentHeader
without_spare f = filter (λ p. not (is_spare f p)) f.segments

-- ## Their bytes

-- how many bytes aren't 0
abbrev pub count_filled : List ℕ → ℕ
count_filled bytes = count_by (λ b. not (b == 0)) bytes

-- of the spare segments
abbrev pub filled_in_spare : SpareFacts → ℕ
filled_in_spare f = sum_by (λ p. count_filled (field p.p_filesz p.p_offset f.source)) (filter (is_spare f) f.segments)

-- of the sections that take memory behind the other loaded segments, each of which stands in a spare one and shares no byte with
-- another
abbrev pub filled_in_sections : SpareFacts → ℕ
filled_in_sections f =
    sum_by (λ s. count_filled s.content) (filter (λ s. is_set SHF_ALLOC s.sh_flags && nat_le (others_end f) s.sh_addr) f.sections)

-- ## What is left

-- how many program headers aren't for a stack
abbrev pub count_others : List SegmentHeader → ℕ
count_others segments = count_by (λ p. not (p.p_type == PT_GNU_STACK)) segments

-- The spare segments can be taken away: some loaded segment is left, all that are left end before them, each of their bytes but zeros
-- is one of a section, and there is room for a stack's program header also while they are there.
unfoldable pub can_reclaim : SpareFacts → Bool
can_reclaim f =
    list_any is_loaded (without_spare f) && nat_le (loads_end (without_spare f)) (others_end f)
    && filled_in_spare f == filled_in_sections f && nat_lt (count_others f.segments) MOST_SEGMENTS

-- The program headers without the spare segments, where these can be taken away.
unfoldable pub segments_reclaimed : SpareFacts → List SegmentHeader
segments_reclaimed f = if can_reclaim f then without_spare f else f.segments
