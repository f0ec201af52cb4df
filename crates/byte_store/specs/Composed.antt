-- Bytes that are composed of a source: pieces, laid over what is kept of it.
use Rattle.std.specs.Prelude.{ℕ, ◌≡◌, ◌+◌, ◌<◌, ◌≤◌, List, Bool, false, ◌&&◌, not, nat_le, nat_lt, All, drop, length, map, slice_index, slice_range, if◌then◌else◌, Option}
use Rattle.std.specs.List.{list_any}
use Rattle.byte_store.specs.Laid.{LiesIn, Patch, changed}
use Rattle.byte_store.specs.Fault.{IsLeft}
use Rattle.byte_store.specs.declared.composed.Span.{Span}
use Rattle.byte_store.specs.declared.composed.OwnedPiece.{OwnedPiece}
use Rattle.byte_store.specs.declared.composed.Difference.{Difference}
use Rattle.byte_store.specs.declared.difference.ReplaceError.{ReplaceError}
use Rattle.byte_store.specs.declared.difference.ReplaceError.TheVariants.{Memory, Write}

-- ---- what is composed

abbrev pub has_position : ℕ → Span → Bool
has_position position span = nat_le span.start position && nat_lt position span.end

abbrev pub is_in_spans : List Span → ℕ → Bool
is_in_spans spans position = list_any (has_position position) spans

-- a patch has a byte for the position
abbrev pub is_patched_at : ℕ → Patch → Bool
is_patched_at position patch = nat_le patch.offset position && nat_lt position (patch.offset + length patch.bytes)

abbrev pub is_patched : List Patch → ℕ → Bool
is_patched patches position = list_any (is_patched_at position) patches

-- the byte where no patch has one: the source's, where it is kept and not cleared; else 0
abbrev pub kept_byte : List ℕ → List Span → List Span → ℕ → ℕ
kept_byte source kept cleared position =
    if is_in_spans kept position && not (is_in_spans cleared position) && nat_lt position (length source)
    then slice_index source position else 0

-- the bytes of a patch stand at its offset
abbrev pub Stands : List ℕ → Patch → Type 0
Stands bytes patch = slice_range bytes patch.offset (patch.offset + length patch.bytes) ≡ patch.bytes

-- So many bytes: each patch's at its offset, and elsewhere what is kept.
pub record IsComposed (source : List ℕ) (kept cleared : List Span) (patches : List Patch) (size : ℕ) (bytes : List ℕ) : Type 0 where
  pub sized : length bytes ≡ size
  pub stand : All (Stands bytes) patches
  pub stay : (k : ℕ) → k < size → is_patched patches k ≡ false → slice_index bytes k ≡ kept_byte source kept cleared k

-- ---- what differs

abbrev pub owned_patch : OwnedPiece → Patch
owned_patch piece = record { offset = piece.offset; bytes = piece.bytes.items }

abbrev pub owned_patches : List OwnedPiece → List Patch
owned_patches pieces = map owned_patch pieces

-- the bytes that a difference makes of those of a source
abbrev pub made_of : List ℕ → Difference → List ℕ
made_of source d = changed d.growth.items (owned_patches d.pieces.items) d.new_length source

-- a patch is no change of a source that has its bytes there
abbrev pub IsChange : List ℕ → Patch → Type 0
IsChange source patch = Stands source patch → ⊥

-- A difference that can be made in a source of such a length, each piece of which changes it.
pub record IsMakeable (source : List ℕ) (d : Difference) : Type 0 where
  pub inside : All (LiesIn (length source + length d.growth.items)) (owned_patches d.pieces.items)
  pub end : d.new_length ≤ length source + length d.growth.items
  pub changes : All (IsChange source) (owned_patches d.pieces.items)

-- A difference makes these bytes of a source, and each part of it is one of theirs: what comes behind the source, and the
-- bytes of each piece. So first parts of it put nothing anywhere that isn't to stand there.
pub record IsMadeInParts (source : List ℕ) (d : Difference) (bytes : List ℕ) : Type 0 where
  pub made : made_of source d ≡ bytes
  pub grown : d.growth.items ≡ drop (length source) bytes
  pub stand : All (Stands bytes) (owned_patches d.pieces.items)

-- A difference that can be made in a source, each piece of which changes it, and each part of which is one of what it makes.
pub record IsDifference (source : List ℕ) (d : Difference) : Type 0 where
  pub inside : All (LiesIn (length source + length d.growth.items)) (owned_patches d.pieces.items)
  pub end : d.new_length ≤ length source + length d.growth.items
  pub changes : All (IsChange source) (owned_patches d.pieces.items)
  pub parts : IsMadeInParts source d (made_of source d)

-- what an error leaves of a store in which a difference was to be made: the very store that there was, or what the failed run tells
abbrev pub IsNotMade : {S : Type 0} → (S → Option (List ℕ)) → Difference → S → S → ReplaceError → Type 0
IsNotMade contents d before after Memory = after ≡ before
IsNotMade contents d before after (Write e) =
    IsLeft e.left d.growth.items (owned_patches d.pieces.items) (contents before) (contents after)
