-- Where everything of the image stands in the file that is written: the two header tables and every section.
use Rattle.std.specs.Prelude.{ℕ, ◌+◌, ◌*◌, min, List, [], ◌∷◌, length, map, filter, find, Bool, ◌&&◌, not, Option, Some, None, is_some, ◌==◌, if◌then◌else◌}
use Rattle.std.specs.Int.{next_multiple_of}
use Rattle.std.specs.List.{flat_map}
use Rattle.patch_bytes.specs.Number.{word_size}
use Rattle.elf_format.specs.Placement.{file_part}
use Rattle.elf_format.specs.Ranges.{end_of}
use Rattle.elf_format.specs.Records.{section_header_size, segment_header_size}
use Rattle.elf_format.specs.Places.{Place, occupies_file}
use Rattle.elf_layout_plan.specs.Added.{Slot, added_loads, alignment_of, greatest, header_count, kept_end}
use Rattle.elf_layout_plan.specs.Anchors.{is_loaded_section}
use Rattle.elf_tables.specs.Kept.{place_at_read}
use Rattle.elf_layout_plan.specs.Memory.{Resized, SizedSection, sized_sections, table_load}

-- ## The program header table

-- where the last segment ends in the file, whether it was read or added
unfoldable pub segments_end : Resized → List ℕ → ℕ
segments_end r moved = greatest (kept_end r moved) (map (λ load. end_of (file_part load.header)) (added_loads r moved))

-- a header table begins at a multiple of a word of the class
abbrev pub next_table : Resized → ℕ → ℕ
next_table r end = next_multiple_of end (word_size r.image.form.wide)

-- Where the program header table stands: where it was, if a loaded segment had all of it, else behind the last segment.
unfoldable pub table_offset : Resized → List ℕ → ℕ
table_offset r moved = if is_some (table_load r) then r.image.header.e_phoff else next_table r (segments_end r moved)

-- the end of the segments, and of the program header table where that stands behind them
unfoldable pub unloaded_start : Resized → List ℕ → ℕ
unloaded_start r moved =
    if is_some (table_load r) then segments_end r moved
    else table_offset r moved + header_count r moved * segment_header_size r.image.form

-- ## The sections that aren't loaded

-- the reserved section header, number 0 (gABI, Special Section Indexes, SHN_UNDEF), without bytes: it is none that could be placed
abbrev pub is_reserved : SizedSection → Bool
is_reserved s = s.kept.position == 0 && s.size == 0

-- the section has bytes in the file, and takes no memory
abbrev pub is_unloaded : SizedSection → Bool
is_unloaded s = occupies_file (place_at_read s.kept.section) && not (is_loaded_section s.kept.section) && not (is_reserved s)

-- Where a section that isn't loaded comes to stand in the file.
pub record UnloadedSlot : Type 0 where
  pub position : ℕ
  pub offset : ℕ
  pub size : ℕ

-- one behind the other, each at the next offset that its alignment allows
unfoldable pub unloaded_from : ℕ → List SizedSection → List UnloadedSlot
unloaded_from end [] = []
unloaded_from end (s ∷ ss) =
    let at = next_multiple_of end (alignment_of s) in
    record { position = s.kept.position; offset = at; size = s.size } ∷ unloaded_from (at + s.size) ss

-- behind the segments, in the order of the sections
unfoldable pub unloaded_slots : Resized → List ℕ → List UnloadedSlot
unloaded_slots r moved = unloaded_from (unloaded_start r moved) (filter is_unloaded (sized_sections r))

-- ## The section header table

-- the end of all that stands before the section header table
unfoldable pub content_end : Resized → List ℕ → ℕ
content_end r moved = greatest (unloaded_start r moved) (map (λ s. s.offset + s.size) (unloaded_slots r moved))

-- Where the section header table stands: behind all else.
unfoldable pub sections_offset : Resized → List ℕ → ℕ
sections_offset r moved = next_table r (content_end r moved)

-- how long the file is
abbrev pub file_size : Resized → List ℕ → ℕ
file_size r moved = sections_offset r moved + length r.image.sections * section_header_size r.image.form

-- ## Every section

-- a section at an offset and an address, with its new size
abbrev pub stands_at : SizedSection → ℕ → ℕ → Place
stands_at s offset address = record (place_at_read s.kept.section) { sh_offset = offset; sh_addr = address; sh_size = s.size }

abbrev pub slot_of : Resized → List ℕ → SizedSection → Option Slot
slot_of r moved s = find (λ x. x.position == s.kept.position) (flat_map (λ load. load.slots) (added_loads r moved))

abbrev pub unloaded_slot_of : Resized → List ℕ → SizedSection → Option UnloadedSlot
unloaded_slot_of r moved s = find (λ x. x.position == s.kept.position) (unloaded_slots r moved)

-- a section that stays where it is; an empty one of the file no further behind than the file has content
abbrev pub stays_at : Resized → List ℕ → SizedSection → Place
stays_at r moved s =
    let old = s.kept.section.sh_offset in
    let offset = if occupies_file (place_at_read s.kept.section) && s.size == 0 then min old (content_end r moved) else old in
    stands_at s offset s.kept.section.sh_addr

-- Where a section stands: in an added segment where it moves, behind the segments where it isn't loaded, else where it was.
unfoldable pub place_in : Resized → List ℕ → SizedSection → Place
place_in r moved s = elim (slot_of r moved s) [
  | Some slot ↦ stands_at s slot.offset slot.address
  | None ↦ elim (unloaded_slot_of r moved s) [
    | Some slot ↦ stands_at s slot.offset s.kept.section.sh_addr
    | None ↦ stays_at r moved s
  ]
]

-- The place of each section, in order.
unfoldable pub places : Resized → List ℕ → List Place
places r moved = map (place_in r moved) (sized_sections r)
