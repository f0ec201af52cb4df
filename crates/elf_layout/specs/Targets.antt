-- Where a program header goes, told by where sections begin and by their positions.
use Rattle.std.specs.Prelude.{ℕ, ◌≡◌, ◌-◌, ◌^◌, List, [], ◌∷◌, ◌++◌, map, IsPermutation, Bool, true, false, ◌&&◌, Option, Some, None, nat_lt, ◌==◌, if◌then◌else◌}
use Rattle.std.specs.List.{list_all, slice_get}
use Rattle.std.specs.Option.{option_map, option_to_list}
use Rattle.elf_format.specs.declared.form.Form.{Form}
use Rattle.elf_format.specs.File.{is_loaded}
use Rattle.elf_format.specs.Places.{Place}
use Rattle.elf_format.specs.Ranges.{range}
use Rattle.elf_layout_plan.specs.declared.fault.LayoutFault.{LayoutFault}
use Rattle.elf_layout_plan.specs.declared.fault.LayoutFault.TheVariants as faults
use Rattle.elf_format.specs.declared.records.SegmentHeader.{SegmentHeader}
use Rattle.elf_layout_plan.specs.Written.{Target, address_for, address_in_memory, anchored_to, physical_for, target_at}
use Rattle.elf_layout.specs.declared.reaches.Reach.{Reach}
use Rattle.elf_layout.specs.declared.targets.TargetAt.{TargetAt}
use Rattle.elf_layout.specs.declared.targets.Targets.{Targets}
use Rattle.elf_layout.specs.declared.headings.Headings.{Headings}
use Rattle.elf_layout.specs.declared.targets.Notes.{Notes}
use Rattle.elf_format.specs.declared.range.Range.{Range}
use Rattle.elf_layout_plan.specs.Memory.{Resized}
use Rattle.elf_layout_segments.specs.declared.starts.Begin.{Begin}
use Rattle.elf_layout_segments.specs.SplitCounts.{chosen_begins}
use Rattle.elf_layout_segments.specs.Sections.{indexed_sections}
use Rattle.elf_layout.specs.Reaches.{AreJoined, joined_all, reach_in}
use Rattle.elf_layout_segments.specs.AnchorPositions.{AnchorPosition, itself, notes, section, table}

abbrev pub target_model : TargetAt → Target
target_model t = record { part = range t.offset t.size; address = t.address }

abbrev pub targets_model : Targets → List Target
targets_model t = option_to_list (option_map target_model t.first) ++ option_to_list (option_map target_model t.second)

-- ## Over several places

-- of several places the one that stands first in the file, and the end of the last
pub record Span : Type 0 where
  pub first : Place
  pub end : ℕ

-- the first of several places and the end of the last, by a reach of them
abbrev pub span_of : List Place → Option Reach → Option Span
span_of all None = None
span_of all (Some r) = option_map (λ (t : Place). let span : Span = record { first = t; end = r.end } in span) (slice_get all r.position)

-- the places of those sections that begin in a range
abbrev pub span_over : List Place → Range → List Begin → Option Span
span_over all part begins = span_of all (joined_all (map (reach_in all part) begins))

abbrev pub target_of_span : Span → Target
target_of_span s = record { part = range s.first.sh_offset (s.end - s.first.sh_offset); address = address_in_memory s.first }

-- ## Of an anchor

-- where sections with bytes begin, those that stay and those that move
pub record Begins : Type 0 where
  pub staying : List Begin
  pub moving : List Begin

-- where sections with bytes of an image begin, by marks: those that stay and those that move, in any order
pub record AreBegins (r : Resized) (marks : List Bool) (begins : Begins) : Type 0 where
  pub staying : IsPermutation (chosen_begins false marks (indexed_sections r.image)) begins.staying
  pub moving : IsPermutation (chosen_begins true marks (indexed_sections r.image)) begins.moving

abbrev pub begins_model : Notes → Begins
begins_model n = record { staying = n.staying.begins.items; moving = n.moving.begins.items }

-- notes of sections that stay and of those that move know where these come to stand
pub record AreNotes (all : List Place) (notes : Notes) : Type 0 where
  pub staying : AreJoined all notes.staying
  pub moving : AreJoined all notes.moving

-- where notes go of which some move
abbrev pub both_targets : Option Target → Option Target → List Target
both_targets staying None = []
both_targets staying (Some moving) = option_to_list staying ++ moving ∷ []

abbrev pub targets_over_notes : Option Span → Option Span → List Target
targets_over_notes staying moving = both_targets (option_map target_of_span staying) (option_map target_of_span moving)

-- where a program header goes that goes by this
unfoldable pub targets_at : List Place → Begins → AnchorPosition → List Target
targets_at all begins itself = []
targets_at all begins table = []
targets_at all begins (section position) = option_to_list (option_map target_at (slice_get all position))
targets_at all begins (notes part) = targets_over_notes (span_over all part begins.staying) (span_over all part begins.moving)

-- ## What is written

abbrev pub headings_model : Headings → List SegmentHeader
headings_model h = h.first ∷ option_to_list h.second

abbrev pub fits_word : ℕ → Bool
fits_word n = nat_lt n (2 ^ 64)

-- the physical address that goes with an address fits 64 bits
unfoldable pub is_physical_well : Form → SegmentHeader → ℕ → Bool
is_physical_well form p address = fits_word (physical_for form p address)

-- a program header's numbers at a target fit
abbrev pub is_anchored_well : Form → SegmentHeader → Target → Bool
is_anchored_well form p t = is_physical_well form p (address_for p t) && fits_word t.part.size

-- a program header's numbers at a target that was found fit
unfoldable pub is_well_at : Form → SegmentHeader → TargetAt → Bool
is_well_at form p t = is_anchored_well form p (target_model t)

unfoldable pub header_at : Form → SegmentHeader → TargetAt → SegmentHeader
header_at form p t = anchored_to form p (target_model t)

abbrev pub targets_found : Targets → List TargetAt
targets_found t = option_to_list t.first ++ option_to_list t.second

-- what becomes of a program header at its targets, where it has any
abbrev pub headings_at : Form → SegmentHeader → SegmentHeader → List Target → List SegmentHeader
headings_at form p alone [] = alone ∷ []
headings_at form p alone (t ∷ ts) = map (anchored_to form p) (t ∷ ts)

-- what becomes of a program header at targets that were found, where there are any
abbrev pub headings_found : Form → SegmentHeader → SegmentHeader → List TargetAt → List SegmentHeader
headings_found form p alone [] = alone ∷ []
headings_found form p alone (t ∷ ts) = map (header_at form p) (t ∷ ts)

-- a program header for the table has that table's size
abbrev pub sized_table : ℕ → SegmentHeader → AnchorPosition → SegmentHeader
sized_table size p itself = p
sized_table size p table = record p { p_filesz = size; p_memsz = size }
sized_table size p (section position) = p
sized_table size p (notes part) = p

abbrev pub does_table_fit : ℕ → AnchorPosition → Bool
does_table_fit size itself = true
does_table_fit size table = fits_word size
does_table_fit size (section position) = true
does_table_fit size (notes part) = true

-- what becomes of a program header that goes by this, where the table has that size
unfoldable pub headings_for : Form → List Place → Begins → ℕ → SegmentHeader → AnchorPosition → List SegmentHeader
headings_for form all begins size p anchor_position = headings_at form p (sized_table size p anchor_position) (targets_at all begins anchor_position)

unfoldable pub do_headings_fit : Form → List Place → Begins → ℕ → SegmentHeader → AnchorPosition → Bool
do_headings_fit form all begins size p anchor_position = does_table_fit size anchor_position && list_all (is_anchored_well form p) (targets_at all begins anchor_position)

-- ## Headers behind the last one that is loaded

-- what is put behind a header, where so many of those that are left are loaded
abbrev pub added_behind : List SegmentHeader → SegmentHeader → ℕ → List SegmentHeader
added_behind more p left = if is_loaded p && left == 1 then more else []

abbrev pub left_behind : SegmentHeader → ℕ → ℕ
left_behind p left = if is_loaded p then left - 1 else left

-- ## Faults

-- some number doesn't fit, or there isn't enough memory
abbrev pub IsMisfit : Bool → LayoutFault → Type 0
IsMisfit fits faults.Overlap = ⊥
IsMisfit fits faults.NumberTooLarge = fits ≡ false
IsMisfit fits faults.Memory = Unit {0}
