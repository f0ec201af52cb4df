-- What of a layout that was found slowly fits its field (gABI, ELF Header, Sections, Program Header).
use Rattle.std.specs.Prelude.{ℕ, ◌≡◌, ◌≤◌, ◌<◌, List, [], ◌∷◌, All, length}
use Rattle.elf_format.specs.declared.constants.TheConstants.{PN_XNUM, SHN_LORESERVE}
use Rattle.test_slow_layout.specs.declared.plain.Piece.{Piece}
use Rattle.test_slow_layout.specs.declared.plain.Plain.{Plain}
use Rattle.test_slow_layout.specs.declared.slow.Found.{Found}
use Rattle.test_slow_layout.specs.declared.slow.Found.TheVariants.{Plan}
use Rattle.test_slow_layout.specs.declared.slow.Slow.{Slow}
use Rattle.test_slow_layout.specs.declared.standing.Slot.{Slot}
use Rattle.test_slow_layout.specs.declared.standing.Standing.{Standing}

-- none of the numbers is past the largest that a word of the file's class holds
abbrev pub AreWithin : Plain → List ℕ → Type 0
AreWithin plain numbers = All (λ n. n ≤ plain.facts.most) numbers

-- the numbers of a program header are within that, type and flags apart
unfoldable pub DoesPieceFit : Plain → Piece → Type 0
DoesPieceFit plain p = AreWithin plain (p.in_file ∷ p.in_memory ∷ p.align ∷ p.offset ∷ p.address ∷ p.physical ∷ [])

-- the numbers that tell where a section stands are within that
abbrev pub DoesSlotFit : Plain → Slot → Type 0
DoesSlotFit plain s = AreWithin plain (s.offset ∷ s.address ∷ s.size ∷ [])

-- Each number of a layout fits its field, and sections and program headers can be counted.
pub record DoesFit (plain : Plain) (standing : Standing) (pieces : List Piece) : Type 0 where
  pub pieces_fit : All (DoesPieceFit plain) pieces
  pub slots_fit : All (DoesSlotFit plain) standing.slots.items
  pub tables_fit : AreWithin plain (standing.e_phoff ∷ standing.e_shoff ∷ [])
  pub few_sections : length plain.parts.items < SHN_LORESERVE
  pub few_pieces : length pieces < PN_XNUM

-- if a layout was found, all of it fits
abbrev pub FitsIfFound : Plain → Found → Type 0
FitsIfFound plain found = (slow : Slow) → found ≡ Plan slow → DoesFit plain slow.standing slow.pieces.items
