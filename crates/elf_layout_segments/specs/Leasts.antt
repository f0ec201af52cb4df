-- The least numbers of stretches of a list.
use Rattle.std.specs.Prelude.{ℕ, ◌-◌, ◌<◌, ◌≤◌, ◌≡◌, List, Bool, Some, length, take, drop, nat_le, slice_get}
use Rattle.std.specs.List.{list_any}
use Rattle.elf_layout_moves.specs.declared.limits.TheConstants.{NEVER}
use Rattle.elf_layout_segments.specs.declared.leasts.Stretch.{Stretch}

-- some number of a list is no greater
abbrev pub reaches : ℕ → List ℕ → Bool
reaches end numbers = list_any (λ n. nat_le n end) numbers

-- so many numbers of a list from a place on, fewer where it ends before
abbrev pub numbers_at : List ℕ → ℕ → ℕ → List ℕ
numbers_at numbers place count = take count (drop place numbers)

-- The least of some numbers: it is no greater than another number where some of them is not.
pub record IsLeast (numbers : List ℕ) (least : ℕ) : Type 0 where
  pub tells : (end : ℕ) → end < NEVER → nat_le least end ≡ reaches end numbers

-- the least of each so many numbers that stand side by side
pub record AreLeastOf (numbers : List ℕ) (width : ℕ) (row : List ℕ) : Type 0 where
  pub many : length row ≡ length numbers
  pub each : (place least : ℕ) → slice_get row place ≡ Some least → IsLeast (numbers_at numbers place width) least

-- each stretch ends where the list does, or before
abbrev pub AreStretchesOf : ℕ → List Stretch → Type 0
AreStretchesOf count asked = (j : ℕ) (s : Stretch) → slice_get asked j ≡ Some s → s.until ≤ count

-- the least numbers of stretches that are shorter than so many numbers
pub record AreLeastBelow (numbers : List ℕ) (asked : List Stretch) (width : ℕ) (answers : List ℕ) : Type 0 where
  pub many : length answers ≡ length asked
  pub each : (j : ℕ) (s : Stretch) (least : ℕ) → slice_get asked j ≡ Some s → slice_get answers j ≡ Some least → s.until - s.from < width
      → IsLeast (numbers_at numbers s.from (s.until - s.from)) least

-- the least numbers of stretches
pub record AreLeastIn (numbers : List ℕ) (asked : List Stretch) (answers : List ℕ) : Type 0 where
  pub many : length answers ≡ length asked
  pub each : (j : ℕ) (s : Stretch) (least : ℕ) → slice_get asked j ≡ Some s → slice_get answers j ≡ Some least
      → IsLeast (numbers_at numbers s.from (s.until - s.from)) least
