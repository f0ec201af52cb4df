-- Pieces of a file's bytes that an edit changes.
use Rattle.std.specs.Prelude.{ℕ, ◌≡◌, ◌+◌, List, length, slice_range, All}
use Rattle.byte_store.specs.declared.pieces.Piece.{Piece}
use Rattle.byte_store.specs.Composed.{Stands}
use Rattle.byte_store.specs.Laid.{LiesIn, Patch, laid, patches_of}

-- pieces that lie in a file's bytes, and make of them these
pub record ArePiecesOf (file new : List ℕ) (pieces : List Piece) : Type 0 where
  pub inside : All (LiesIn (length file)) (patches_of pieces)
  pub same : laid (patches_of pieces) file ≡ new

-- pieces that lie in a file's bytes, and make of them these, and each of which stands in these
pub record ArePartsOf (file new : List ℕ) (pieces : List Piece) : Type 0 where
  pub inside : All (LiesIn (length file)) (patches_of pieces)
  pub same : laid (patches_of pieces) file ≡ new
  pub stand : All (Stands new) (patches_of pieces)

-- what stands in bytes in the place of a patch
abbrev pub standing_in : List ℕ → Patch → Patch
standing_in bytes patch =
    record { offset = patch.offset; bytes = slice_range bytes patch.offset (patch.offset + length patch.bytes) }

-- where the old pieces lead to bytes, the new ones lead on to others
abbrev pub LaysOn : List Piece → List Piece → List ℕ → List ℕ → Type 0
LaysOn old new before after =
    (file : List ℕ) → laid (patches_of old) file ≡ before → laid (patches_of new) file ≡ after

-- where the old pieces lie in so many bytes, the new pieces do too
abbrev pub LiesOn : ℕ → List Piece → List Piece → Type 0
LiesOn len old new = All (LiesIn len) (patches_of old) → All (LiesIn len) (patches_of new)
