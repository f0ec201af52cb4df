-- Which program headers keep their ranges and which are split, told by the positions of sections and the marks of those that move.
use Rattle.std.specs.Prelude.{ℕ, ◌*◌, max, List, [], ◌∷◌, ◌++◌, length, map, filter, Bool, true, false, ◌&&◌, not, Some, None, nat_le, ◌==◌, if◌then◌else◌, slice_index_or}
use Rattle.std.specs.List.{list_any, slice_get}
use Rattle.elf_format.specs.Image.{ImageSection}
use Rattle.elf_format.specs.Options.{is_one_of}
use Rattle.elf_format.specs.Placement.{file_part}
use Rattle.elf_format.specs.Ranges.{end_of}
use Rattle.elf_format.specs.Records.{file_header_size, segment_header_size}
use Rattle.elf_format.specs.declared.records.SegmentHeader.{SegmentHeader}
use Rattle.elf_layout_plan.specs.Added.{greatest, keeps_range}
use Rattle.elf_layout_plan.specs.Anchors.{is_loaded_section}
use Rattle.elf_layout_plan.specs.Memory.{Resized}
use Rattle.elf_layout_plan.specs.Rounds.{flags_for}
use Rattle.elf_layout_segments.specs.declared.sections.SectionAt.{SectionAt}
use Rattle.elf_layout_segments.specs.declared.starts.Begin.{Begin}
use Rattle.elf_layout_segments.specs.declared.starts.Starts.{Starts}
use Rattle.elf_layout_segments.specs.Asked.{is_some_in}
use Rattle.elf_layout_segments.specs.AnchorPositions.{AnchorPosition, itself, notes, section, table}
use Rattle.elf_layout_segments.specs.InOrder.{AreInOrder}
use Rattle.elf_layout_segments.specs.Sections.{has_bytes_at}

-- ## Marks

-- the section at a position moves
abbrev pub is_marked : List Bool → ℕ → Bool
is_marked marks position = slice_index_or marks position false

-- the section at a position moves, or it stays
abbrev pub is_chosen : Bool → List Bool → ℕ → Bool
is_chosen moving marks position = if moving then is_marked marks position else not (is_marked marks position)

abbrev pub do_any_move : List Bool → List ℕ → Bool
do_any_move marks positions = list_any (is_marked marks) positions

abbrev pub do_any_stay : List Bool → List ℕ → Bool
do_any_stay marks positions = list_any (λ position. not (is_marked marks position)) positions

-- where sections with bytes begin in the file, those that move or those that stay
abbrev pub chosen_starts : Bool → List Bool → List SectionAt → List ℕ
chosen_starts moving marks sections = map (λ (s : SectionAt). s.sh_offset) (filter (λ s. has_bytes_at s && is_chosen moving marks s.position) sections)

-- where sections with bytes begin in the file, those that move or those that stay, with their positions
abbrev pub chosen_begins : Bool → List Bool → List SectionAt → List Begin
chosen_begins moving marks sections =
    map (λ (s : SectionAt). let b : Begin = record { start = s.sh_offset; position = s.position } in b) (filter (λ s. has_bytes_at s && is_chosen moving marks s.position) sections)

-- where the sections with bytes that move begin, and those that stay, in order
pub record AreStarts (sections : List SectionAt) (marks : List Bool) (starts : Starts) : Type 0 where
  pub moving : AreInOrder (chosen_starts true marks sections) starts.moving.numbers.items
  pub staying : AreInOrder (chosen_starts false marks sections) starts.staying.numbers.items

-- a program header that goes by this is split
abbrev pub is_split_at : Starts → AnchorPosition → Bool
is_split_at starts itself = false
is_split_at starts table = false
is_split_at starts (section position) = false
is_split_at starts (notes part) = is_some_in starts.moving part && is_some_in starts.staying part

-- ## Flags

-- a number, where it isn't there yet
abbrev pub with_once : List ℕ → ℕ → List ℕ
with_once ns n = if is_one_of ns n then ns else ns ++ n ∷ []

-- the flags that the section at a position needs
unfoldable pub with_flags : Bool → List ImageSection → List ℕ → ℕ → List ℕ
with_flags leave sections flags position = elim (slice_get sections position) [ Some s ↦ with_once flags (flags_for leave s) | None ↦ flags ]

-- ## Ranges that are kept

-- a program header has the range of a section with a new size
abbrev pub keeps_section : ImageSection → ℕ → SegmentHeader → Bool
keeps_section s size p = is_loaded_section s && s.sh_offset == p.p_offset && s.sh_addr == p.p_vaddr && size == p.p_filesz

-- a program header has the range of the section at a position with its new size
unfoldable pub keeps_section_at : Resized → SegmentHeader → ℕ → Bool
keeps_section_at r p position = elim (slice_get r.image.sections position) [
  | Some s ↦ elim (slice_get r.sizes position) [ Some size ↦ keeps_section s size p | None ↦ false ]
  | None ↦ false
]

-- a program header that goes by this keeps its range
unfoldable pub keeps_at : Resized → List Bool → Starts → ℕ → SegmentHeader → AnchorPosition → Bool
keeps_at r marks starts headers p itself = true
keeps_at r marks starts headers p table = p.p_filesz == headers * segment_header_size r.image.form && p.p_memsz == p.p_filesz
keeps_at r marks starts headers p (section position) = not (is_marked marks position) && keeps_section_at r p position
keeps_at r marks starts headers p (notes part) = not (is_some_in starts.moving part)

-- the later of two ends, where the second counts
unfoldable pub end_with : Bool → ℕ → ℕ → ℕ → ℕ
end_with keeps stop size end = if keeps && nat_le stop size then max end stop else end

-- where the program headers end that keep their ranges
unfoldable pub kept_end_over : Resized → List ℕ → List SegmentHeader → ℕ
kept_end_over r moved segments =
    let ends = map (λ p. end_of (file_part p)) (filter (keeps_range r moved) segments) in
    greatest (file_header_size r.image.form) (filter (λ end. nat_le end (length r.image.source)) ends)
