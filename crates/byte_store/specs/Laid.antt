-- Pieces that are laid over bytes.
use Rattle.std.specs.Prelude.{ℕ, ◌≡◌, ◌+◌, ◌-◌, ◌≤◌, List, [], ◌∷◌, ◌++◌, length, take, map, All, Option, Some}
use Rattle.byte_store.specs.Known.{put_at}
use Rattle.byte_store.specs.declared.pieces.Piece.{Piece}

-- bytes that are to stand at an offset
pub record Patch : Type 0 where
  pub offset : ℕ
  pub bytes : List ℕ

-- the patch of a piece
abbrev pub patch_of : Piece → Patch
patch_of piece = record { offset = piece.offset; bytes = piece.bytes.now }

abbrev pub patches_of : List Piece → List Patch
patches_of pieces = map patch_of pieces

-- a patch that lies within so many bytes
abbrev pub LiesIn : ℕ → Patch → Type 0
LiesIn len patch = patch.offset + length patch.bytes ≤ len

-- bytes with patches over them, in order
abbrev pub laid : List Patch → List ℕ → List ℕ
laid [] bytes = bytes
laid (patch ∷ patches) bytes = laid patches (put_at patch.offset patch.bytes bytes)

-- how many bytes patches have
abbrev pub total : List Patch → ℕ
total [] = 0
total (patch ∷ patches) = length patch.bytes + total patches

-- a patch with its first n bytes alone
abbrev pub cut : ℕ → Patch → Patch
cut n patch = record { offset = patch.offset; bytes = take n patch.bytes }

-- the first n bytes of patches, in order
abbrev pub first_bytes : ℕ → List Patch → List Patch
first_bytes n [] = []
first_bytes n (patch ∷ patches) = cut n patch ∷ first_bytes (n - length patch.bytes) patches

-- bytes that grow, get patches laid over them, and are cut to a length
abbrev pub changed : List ℕ → List Patch → ℕ → List ℕ → List ℕ
changed growth patches len bytes = take len (laid patches (bytes ++ growth))

-- known bytes within which all patches lie get these laid over them
abbrev pub LaysOf : List Patch → List Patch → Option (List ℕ) → Option (List ℕ) → Type 0
LaysOf patches these old new = (bytes : List ℕ) → old ≡ Some bytes → All (LiesIn (length bytes)) patches
    → new ≡ Some (laid these bytes)

-- known bytes get all of these patches laid over them
abbrev pub Lays : List Patch → Option (List ℕ) → Option (List ℕ) → Type 0
Lays patches old new = LaysOf patches patches old new

-- known bytes get some first bytes of the patches laid over them
abbrev pub LaysFirst : List Patch → Option (List ℕ) → Option (List ℕ) → Type 0
LaysFirst patches old new = (n : ℕ) × LaysOf patches (first_bytes n patches) old new

-- known bytes of this length get patches laid over them and are cut to another
abbrev pub LaysAndCuts : ℕ → List Patch → ℕ → Option (List ℕ) → Option (List ℕ) → Type 0
LaysAndCuts len patches most old new = (bytes : List ℕ) → old ≡ Some bytes → length bytes ≡ len
    → new ≡ Some (take most (laid patches bytes))
