-- Patches that are what others change of bytes.
use Rattle.std.specs.Prelude.{ℕ, ◌≡◌, ◌+◌, ◌-◌, ◌<◌, List, ◌++◌, All, true, false, length, drop, map, replicate, slice_index}
use Rattle.byte_store.specs.Laid.{LiesIn, Patch}
use Rattle.byte_store.specs.Composed.{IsChange, Stands, is_patched, owned_patches}
use Rattle.byte_store.specs.Gaps.{AreZeros, IsSpanIn}
use Rattle.byte_store.specs.declared.composed.Span.{Span}
use Rattle.byte_store.specs.declared.composed.OwnedPiece.{OwnedPiece}

-- More patches are what the patches of a list change of bytes: where the list's stand, they do, and at each position of the list's that
-- they don't have, the bytes are the same.
pub record Shows (front : List ℕ) (patches more : List Patch) : Type 0 where
  pub inside : All (LiesIn (length front)) more
  pub changes : All (IsChange front) more
  pub stand : (target : List ℕ) → All (Stands target) patches → All (Stands target) more
  pub cover : (target : List ℕ) → All (Stands target) patches → (k : ℕ) → k < length front
      → is_patched patches k ≡ true → is_patched more k ≡ false → slice_index front k ≡ slice_index target k

-- what further patches change is put behind what the ones before them change
unfoldable pub Adds : List ℕ → List Patch → List OwnedPiece → List OwnedPiece → Type 0
Adds front patches before after = (done : List Patch)
    → Shows front done (owned_patches before) → Shows front (done ++ patches) (owned_patches after)

-- bytes at an offset
abbrev pub patch_at : ℕ → List ℕ → Patch
patch_at offset bytes = record { offset = offset; bytes = bytes }

-- a patch that lies further behind
abbrev pub shifted : ℕ → Patch → Patch
shifted offset patch = record { offset = offset + patch.offset; bytes = patch.bytes }

-- what of a patch lies behind a position, from there on
abbrev pub behind : ℕ → Patch → Patch
behind at patch = record { offset = patch.offset - at; bytes = drop (at - patch.offset) patch.bytes }

-- the zeros that stand in a span
abbrev pub zero_patch : Span → Patch
zero_patch span = record { offset = span.start; bytes = replicate (span.end - span.start) 0 }

abbrev pub zero_patches : List Span → List Patch
zero_patches spans = map zero_patch spans

abbrev pub IsZero : ℕ → Type 0
IsZero byte = byte ≡ 0

-- Patches are what others change of bytes, and the zeros where nothing is kept.
pub record ShowsAll (front : List ℕ) (kept cleared : List Span) (patches more : List Patch) : Type 0 where
  pub zeros : List Span
  pub within : All (IsSpanIn (length front)) zeros
  pub are : AreZeros (length front) kept cleared patches zeros
  pub shows : Shows front (patches ++ zero_patches zeros) more
