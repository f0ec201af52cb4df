-- What laying patches over bytes means, position by position.
use Rattle.std.specs.Prelude.{ℕ, ◌≡◌, ◌+◌, ◌<◌, ◌≤◌, ◌⊎◌, List, ◌∷◌, ◌++◌, length, All, slice_get}
use Rattle.byte_store.specs.Laid.{Patch, LiesIn, laid}

-- a position that a patch doesn't reach
abbrev pub IsOutside : ℕ → Patch → Type 0
IsOutside k patch = (k < patch.offset) ⊎ (patch.offset + length patch.bytes ≤ k)

-- patches within the bytes keep their number
abbrev pub LaidKeepsLength : Type 0
LaidKeepsLength = (patches : List Patch) (bytes : List ℕ) → All (LiesIn (length bytes)) patches
    → length (laid patches bytes) ≡ length bytes

-- a position outside all patches keeps its byte
abbrev pub LaidKeepsOutside : Type 0
LaidKeepsOutside = (patches : List Patch) (bytes : List ℕ) (k : ℕ) → All (LiesIn (length bytes)) patches
    → All (IsOutside k) patches → slice_get (laid patches bytes) k ≡ slice_get bytes k

-- a position in a patch, and outside those behind it, has the patch's byte
abbrev pub LaidHoldsInside : Type 0
LaidHoldsInside = (before : List Patch) (patch : Patch) (behind : List Patch) (bytes : List ℕ) (k : ℕ)
    → All (LiesIn (length bytes)) (before ++ patch ∷ behind) → k < length patch.bytes
    → All (IsOutside (patch.offset + k)) behind
    → slice_get (laid (before ++ patch ∷ behind) bytes) (patch.offset + k) ≡ slice_get patch.bytes k
