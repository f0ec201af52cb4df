-- The program headers that are written.
use Rattle.std.specs.Prelude.{ℕ, ◌+◌, ◌-◌, ◌*◌, max, List, [], ◌∷◌, ◌++◌, map, true, ◌&&◌, ◌||◌, not, Option, Some, None, nat_le, nat_lt, ◌==◌, if◌then◌else◌, slice_get}
use Rattle.std.specs.List.{filter_map, flat_map, list_any}
use Rattle.elf_format.specs.declared.constants.TheConstants.{PT_DYNAMIC, PT_INTERP}
use Rattle.elf_format.specs.declared.form.Form.{Form}
use Rattle.elf_format.specs.File.{is_loaded}
use Rattle.elf_format.specs.Options.{is_one_of}
use Rattle.elf_format.specs.declared.range.Range.{Range}
use Rattle.elf_format.specs.Ranges.{end_of, range}
use Rattle.elf_format.specs.declared.records.SegmentHeader.{SegmentHeader}
use Rattle.elf_format.specs.Records.{segment_header_size}
use Rattle.elf_format.specs.Places.{Place, file_range, occupies_memory}
use Rattle.elf_layout_plan.specs.Added.{added_loads, greatest, header_count}
use Rattle.elf_layout_plan.specs.Anchors.{HeaderTable, Itself, Notes, OneSection, is_moved, anchor_of, moved_notes, staying_notes}
use Rattle.elf_tables.specs.Kept.{KeptSection}
use Rattle.elf_layout_plan.specs.Memory.{Resized}
use Rattle.elf_layout_plan.specs.Sizes.{field_range}
use Rattle.elf_layout_plan.specs.Standing.{places}

-- Where a program header goes: bytes of the file and, where what it goes by is loaded, an address.
pub record Target : Type 0 where
  pub part : Range
  pub address : Option ℕ

-- ## What a program header becomes there

-- The list and the interpreter's name take as much memory as they have bytes, and so does what did at read. What took less keeps
-- that, and what took more takes no less (gABI, Program Header, p_memsz).
abbrev pub memory_size : SegmentHeader → ℕ → ℕ
memory_size p size =
    if is_one_of (PT_DYNAMIC ∷ PT_INTERP ∷ []) p.p_type || p.p_memsz == p.p_filesz then size
    else if nat_lt p.p_memsz p.p_filesz then p.p_memsz
    else max p.p_memsz size

-- the physical address that goes with another address: as far from it as it was. One that would lie below 0 is counted from the end of
-- its field, since nothing reads it (gABI, Program Header, p_paddr).
abbrev pub physical_for : Form → SegmentHeader → ℕ → ℕ
physical_for form p address =
    if nat_le p.p_vaddr (p.p_paddr + address) then p.p_paddr + address - p.p_vaddr
    else p.p_paddr + address + field_range form - p.p_vaddr

abbrev pub at_address : Form → SegmentHeader → ℕ → SegmentHeader
at_address form p address = record p { p_vaddr = address; p_paddr = physical_for form p address }

-- the address that a program header gets
abbrev pub address_for : SegmentHeader → Target → ℕ
address_for p t = elim t.address [ Some address ↦ address | None ↦ p.p_vaddr ]

abbrev pub anchored_to : Form → SegmentHeader → Target → SegmentHeader
anchored_to form p t = record (at_address form p (address_for p t)) {
  p_offset = t.part.start;
  p_filesz = t.part.size;
  p_memsz = memory_size p t.part.size;
}

-- ## Where that is

-- the address of a place, where it is in memory
abbrev pub address_in_memory : Place → Option ℕ
address_in_memory s = if occupies_memory s then Some s.sh_addr else None

abbrev pub target_at : Place → Target
target_at s = record { part = file_range s; address = address_in_memory s }

-- of places the one that stands first in the file
unfoldable pub first_in_file : Place → List Place → Place
first_in_file s [] = s
first_in_file s (t ∷ ts) = first_in_file (if nat_lt t.sh_offset s.sh_offset then t else s) ts

-- from the first of several places to the end of the last
abbrev pub target_over : Place → List Place → Target
target_over s ts =
    let first = first_in_file s ts in
    let end = greatest (end_of (file_range s)) (map (λ t. end_of (file_range t)) ts) in
    record { part = range first.sh_offset (end - first.sh_offset); address = address_in_memory first }

-- several places give one target, and no place gives none
abbrev pub targets_over : List Place → List Target
targets_over [] = []
targets_over (s ∷ ss) = target_over s ss ∷ []

-- the places of sections
abbrev pub places_of_kept : List Place → List KeptSection → List Place
places_of_kept all sections = filter_map (λ s. slice_get all s.position) sections

-- where several notes go: those that stay, if some do, and those that move
abbrev pub targets_of_notes : List ℕ → List Place → List KeptSection → List Target
targets_of_notes moved all notes =
    if list_any (is_moved moved) notes
    then targets_over (places_of_kept all (staying_notes moved notes)) ++ targets_over (places_of_kept all (moved_notes moved notes))
    else []

-- where a program header goes, to two places where it is split; none where it keeps its range
unfoldable pub targets_of : Resized → List ℕ → SegmentHeader → List Target
targets_of r moved p = elim (anchor_of r.read r.image p) [
  | Itself ↦ []
  | HeaderTable ↦ []
  | OneSection s ↦ map target_at (places_of_kept (places r moved) (s ∷ []))
  | Notes notes ↦ targets_of_notes moved (places r moved) notes
]

-- ## All of them

-- a program header for the table has that table's new size (gABI, Program Header, PT_PHDR)
abbrev pub with_table_size : Resized → List ℕ → SegmentHeader → SegmentHeader
with_table_size r moved p =
    let size = header_count r moved * segment_header_size r.image.form in
    record p { p_filesz = size; p_memsz = size }

abbrev pub resized_table : Resized → List ℕ → SegmentHeader → SegmentHeader
resized_table r moved p = elim (anchor_of r.read r.image p) [ HeaderTable ↦ with_table_size r moved p | _ ↦ p ]

-- what becomes of a program header: one, or two where it is split
abbrev pub written_from : Resized → List ℕ → SegmentHeader → List SegmentHeader
written_from r moved p = elim (targets_of r moved p) [
  | [] ↦ resized_table r moved p ∷ []
  | t ∷ ts ↦ map (anchored_to r.image.form p) (t ∷ ts)
]

-- headers put behind the last one that is loaded
unfoldable pub behind_last_load : List SegmentHeader → List SegmentHeader → List SegmentHeader
behind_last_load more [] = []
behind_last_load more (p ∷ ps) = elim (is_loaded p && not (list_any is_loaded ps)) [ true ↦ p ∷ more ++ ps | _ ↦ p ∷ behind_last_load more ps ]

-- The program headers that are written, in order.
unfoldable pub written_segments : Resized → List ℕ → List SegmentHeader
written_segments r moved =
    behind_last_load (map (λ load. load.header) (added_loads r moved)) (flat_map (written_from r moved) r.image.segments)
