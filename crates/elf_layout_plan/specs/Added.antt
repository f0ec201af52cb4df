-- The loaded segments that are added for sections that move: where they stand, and where their sections stand in them.
use Rattle.std.specs.Prelude.{ℕ, ◌+◌, ◌-◌, ◌*◌, ◌%◌, max, List, [], ◌∷◌, length, map, filter, fold, Bool, true, ◌&&◌, not, Some, None, nat_le, ◌==◌, if◌then◌else◌}
use Rattle.std.specs.Int.{next_multiple_of}
use Rattle.std.specs.List.{list_any}
use Rattle.elf_format.specs.declared.constants.TheConstants.{PT_LOAD}
use Rattle.elf_format.specs.File.{loads_of}
use Rattle.elf_format.specs.Machine.{default_page_size}
use Rattle.elf_format.specs.Placement.{file_part, memory_part}
use Rattle.elf_format.specs.Ranges.{end_of}
use Rattle.elf_format.specs.declared.records.SegmentHeader.{SegmentHeader}
use Rattle.elf_format.specs.Records.{file_header_size, segment_header_size}
use Rattle.elf_layout_plan.specs.Anchors.{HeaderTable, Itself, Notes, OneSection, is_loaded_section, is_moved, anchor_of}
use Rattle.elf_format.specs.Image.{Image, ImageSection}
use Rattle.elf_image_headers.specs.Segments.{loads_end}
use Rattle.elf_tables.specs.Kept.{KeptSection}
use Rattle.elf_layout_plan.specs.Memory.{Resized, SizedSection, has_lost_load, sized_sections, takes_memory}
use Rattle.elf_layout_plan.specs.Rounds.{added_flags, flags_for, headers_needed, sections_at}

-- the greatest of a number and others
abbrev pub greatest : ℕ → List ℕ → ℕ
greatest n ns = fold max n ns

-- ## The end of what stays in the file

-- how many program headers are written
abbrev pub header_count : Resized → List ℕ → ℕ
header_count r moved = length r.image.segments + headers_needed r moved

-- a program header has the range of a section with its new size, and the section stays
abbrev pub keeps_section_range : Resized → List ℕ → SegmentHeader → KeptSection → Bool
keeps_section_range r moved p s =
    not (is_moved moved s) && is_loaded_section s.section
    && s.section.sh_offset == p.p_offset && s.section.sh_addr == p.p_vaddr
    && list_any (λ x. x.kept.position == s.position && x.size == p.p_filesz) (sized_sections r)

-- the program header keeps its range
abbrev pub keeps_range : Resized → List ℕ → SegmentHeader → Bool
keeps_range r moved p = elim (anchor_of r.read r.image p) [
  | Itself ↦ true
  | HeaderTable ↦ p.p_filesz == header_count r moved * segment_header_size r.image.form && p.p_memsz == p.p_filesz
  | OneSection s ↦ keeps_section_range r moved p s
  | Notes notes ↦ not (list_any (is_moved moved) notes)
]

-- where the file parts end that stay where they are, those that lie in the file that was read; at least behind the file header
unfoldable pub kept_end : Resized → List ℕ → ℕ
kept_end r moved =
    let ends = map (λ p. end_of (file_part p)) (filter (keeps_range r moved) r.image.segments) in
    greatest (file_header_size r.image.form) (filter (λ end. nat_le end (length r.image.source)) ends)

-- ## Where memory ends

-- the section takes memory, had some at read, and didn't lose the loaded segment that it stood in
abbrev pub had_memory : Image → ImageSection → Bool
had_memory image s = takes_memory s && not (s.sh_size == 0) && not (has_lost_load image s)

-- the ends of the loaded segments, and of those sections
unfoldable pub memory_end : Resized → ℕ
memory_end r =
    let sections = filter (λ s. had_memory r.image s.kept.section) (sized_sections r) in
    greatest (loads_end r.image.segments) (map (λ s. s.kept.section.sh_addr + s.kept.section.sh_size) sections)

-- ## The alignment of what is loaded

-- the greatest alignment of the loaded segments that were read, or the machine's pages where they tell none
abbrev pub alignment_at_read : Image → ℕ
alignment_at_read read =
    let found = greatest 0 (map (λ p. p.p_align) (loads_of read.segments)) in
    if found == 0 then default_page_size read.header.e_machine else found

-- the page size that was set, or without one the alignment at read
unfoldable pub load_alignment : Image → Image → ℕ
load_alignment read image = elim image.page_size [ Some size ↦ size | None ↦ alignment_at_read read ]

-- ## The segments

-- Where a section that moves comes to stand.
pub record Slot : Type 0 where
  pub position : ℕ
  pub offset : ℕ
  pub address : ℕ
  pub size : ℕ

-- what a section's address is a multiple of; 0 says nothing (gABI, Sections, sh_addralign)
abbrev pub alignment_of : SizedSection → ℕ
alignment_of s = max 1 s.kept.section.sh_addralign

-- sections one behind the other, each at the next address that its alignment allows, all at one distance from their offsets
unfoldable pub slots_from : ℕ → ℕ → List SizedSection → List Slot
slots_from offset address [] = []
slots_from offset address (s ∷ ss) =
    let at = next_multiple_of address (alignment_of s) in
    record { position = s.kept.position; offset = offset + (at - address); address = at; size = s.size }
    ∷ slots_from (offset + (at - address) + s.size) (at + s.size) ss

-- A loaded segment that is added, and the sections in it.
pub record AddedLoad : Type 0 where
  pub header : SegmentHeader
  pub slots : List Slot

-- the end of the last slot in the file, counted from a segment's offset
abbrev pub size_of_slots : ℕ → List Slot → ℕ
size_of_slots offset slots = greatest offset (map (λ s. s.offset + s.size) slots) - offset

-- the segment from an offset on that has these sections, at an address of that distance from a multiple of the alignment
abbrev pub load_at : ℕ → ℕ → ℕ → ℕ → List SizedSection → AddedLoad
load_at align flags offset address sections =
    let slots = slots_from offset address sections in
    let size = size_of_slots offset slots in
    record {
      header = record { p_type = PT_LOAD; p_flags = flags; p_offset = offset; p_vaddr = address; p_paddr = address; p_filesz = size; p_memsz = size; p_align = align };
      slots = slots;
    }

-- one segment for each set of flags, with the sections that need it: behind the end of the file and of memory so far, at an address
-- that leaves the same rest as the offset when it is divided by the alignment
unfoldable pub loads_from : Bool → ℕ → ℕ → ℕ → List ℕ → List SizedSection → List AddedLoad
loads_from leave align end memory [] sections = []
loads_from leave align end memory (flags ∷ more) sections =
    let load = load_at align flags end (next_multiple_of memory align + end % align) (filter (λ s. flags_for leave s.kept.section == flags) sections) in
    load ∷ loads_from leave align (end_of (file_part load.header)) (end_of (memory_part load.header)) more sections

-- The loaded segments that are added.
unfoldable pub added_loads : Resized → List ℕ → List AddedLoad
added_loads r moved = loads_from r.image.moves_dynamic (load_alignment r.read r.image) (kept_end r moved) (memory_end r) (added_flags r moved) (sections_at r moved)
