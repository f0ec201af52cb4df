-- What the steps hand to each other by which program headers are anchored, and by which rounds come to an end.
use Rattle.std.specs.Prelude.{ℕ, ◌≡◌, ◌+◌, List, length, map}
use Rattle.elf_format.specs.Placement.{file_part}
use Rattle.elf_format.specs.declared.range.Range.{Range}
use Rattle.elf_format.specs.declared.records.SegmentHeader.{SegmentHeader}
use Rattle.elf_layout_plan.specs.declared.fault.LayoutFault.{LayoutFault}
use Rattle.elf_layout_plan.specs.declared.fault.LayoutFault.TheVariants as faults
use Rattle.elf_layout_plan.specs.Anchors.{Itself, HeaderTable, Anchor, Notes, OneSection, anchor_of}
use Rattle.elf_layout_plan.specs.Memory.{Resized}
use Rattle.elf_layout_plan.specs.Plan.{IsOverlapping}
use Rattle.elf_layout_plan.specs.Rounds.{AreRounds}
use Rattle.elf_layout_segments.specs.declared.anchors.AnchorAt.{AnchorAt}
use Rattle.elf_layout_segments.specs.declared.anchors.AnchorAt.TheVariants as at
use Rattle.elf_layout_segments.specs.declared.rounds.Rounds.{Rounds}

-- ## Anchors

-- An anchor with the position of a section in place of the section, and with the bytes that the program header covers in place of
-- the notes in them.
pub data AnchorPosition : Type 0 where
  itself : AnchorPosition
  table : AnchorPosition
  section : ℕ → AnchorPosition
  notes : Range → AnchorPosition

abbrev pub anchor_position : SegmentHeader → Anchor → AnchorPosition
anchor_position p Itself = itself
anchor_position p HeaderTable = table
anchor_position p (OneSection s) = section s.position
anchor_position p (Notes ns) = notes (file_part p)

abbrev pub anchor_model : AnchorAt → AnchorPosition
anchor_model at.Itself = itself
anchor_model at.HeaderTable = table
anchor_model (at.OneSection position) = section position
anchor_model (at.Notes part) = notes part

-- each anchor is that of the program header at its place
abbrev pub AreAnchors : Resized → List AnchorAt → Type 0
AreAnchors r anchors = map anchor_model anchors ≡ map (λ p. anchor_position p (anchor_of r.read r.image p)) r.image.segments

-- ## Rounds

-- rounds came to an end with these sections
abbrev pub IsEnded : Resized → Rounds → Type 0
IsEnded r rounds = (before : List (List ℕ)) × (AreRounds r before rounds.looked rounds.moved.items) × (rounds.count ≡ length before + 1)

abbrev pub IsNoEnd : Resized → LayoutFault → Type 0
IsNoEnd r faults.Overlap = IsOverlapping r
IsNoEnd r faults.NumberTooLarge = ⊥
IsNoEnd r faults.Memory = Unit {0}
