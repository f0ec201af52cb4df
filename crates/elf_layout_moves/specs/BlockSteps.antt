-- How the sections that move are found: what the steps hand to each other.
use Rattle.std.specs.Prelude.{ℕ, ◌+◌, ◌≡◌, ◌<◌, ◌↔◌, ◌⊎◌, List, Option, None, Some, IsSome, Contains, length, slice_get, true, false}
use Rattle.elf_layout_plan.specs.declared.block.Block.{Block as Ranged}
use Rattle.elf_layout_plan.specs.declared.fault.LayoutFault.{LayoutFault}
use Rattle.elf_layout_plan.specs.declared.fault.LayoutFault.TheVariants as faults
use Rattle.elf_layout_plan.specs.MovedBlocks.{HasStuck}
use Rattle.elf_format.specs.Image.{Image, ImageSection}
use Rattle.elf_layout_plan.specs.Blocks.{Block, has_cause, is_block_of_some, is_earlier, is_stuck, rank, stay_apart}

-- what is known of each block of an image: only a section's moves, and the start of a loaded segment is no section
pub record IsWhole (b : Block) : Type 0 where
  pub owned : 0 < b.priority → IsSome b.section
  pub placed : b.is_load_start ≡ true → b.is_displaced ≡ false
  pub fixed : b.is_load_start ≡ true → b.priority ≡ 0

-- two of the blocks that start together and have one size and one rank are the same
abbrev pub AreTold : List Block → Type 0
AreTold blocks =
    (x y : Block) → Contains blocks x → Contains blocks y → x.start ≡ y.start → x.size ≡ y.size → rank x ≡ rank y → x ≡ y

-- The blocks that move: each for a cause, and once those of these sections move the others are apart.
pub record AreMovers (blocks movers : List Block) : Type 0 where
  pub there : (k : ℕ) (x : Block) → slice_get movers k ≡ Some x → Contains blocks x
  pub can : (k : ℕ) (x : Block) → slice_get movers k ≡ Some x → 0 < x.priority
  pub causes : (k : ℕ) (x : Block) (position : ℕ) → slice_get movers k ≡ Some x → x.section ≡ Some position → has_cause blocks position ≡ true
  pub apart : (moved : List ℕ) → ((k : ℕ) (x : Block) → slice_get movers k ≡ Some x → is_block_of_some moved x ≡ true) → stay_apart moved blocks ≡ true
  pub free : is_stuck blocks ≡ false

-- no marks: two ranges are stuck
abbrev pub HasStuckFault : List Ranged → LayoutFault → Type 0
HasStuckFault ranges faults.Overlap = HasStuck ranges
HasStuckFault ranges faults.NumberTooLarge = ⊥
HasStuckFault ranges faults.Memory = Unit {0}

-- no blocks that move: two are stuck
abbrev pub IsStuckFault : List Block → LayoutFault → Type 0
IsStuckFault blocks faults.Overlap = is_stuck blocks ≡ true
IsStuckFault blocks faults.NumberTooLarge = ⊥
IsStuckFault blocks faults.Memory = Unit {0}

-- each block stands behind those that are earlier
abbrev pub AreOrdered : List Block → Type 0
AreOrdered blocks = (i j : ℕ) (x y : Block) → i < j → slice_get blocks i ≡ Some x → slice_get blocks j ≡ Some y → is_earlier x y ≡ true

-- no block is displaced, or none is the start of a loaded segment
abbrev pub AreClear : List Block → Type 0
AreClear blocks =
    ((k : ℕ) (x : Block) → slice_get blocks k ≡ Some x → x.is_displaced ≡ false)
    ⊎ ((k : ℕ) (x : Block) → slice_get blocks k ≡ Some x → x.is_load_start ≡ false)

-- A block at a place of the order, by the places in place of addresses: it begins at its own, and of those behind it the range has
-- just those that the block overlaps.
pub record IsRangeOf (blocks : List Block) (place : ℕ) (x : Block) (range : Ranged) : Type 0 where
  pub start : range.start ≡ place
  pub priority : range.priority ≡ x.priority
  pub reaches : (j : ℕ) (y : Block) → place < j → slice_get blocks j ≡ Some y → (j < place + range.size) ↔ (y.start < x.start + x.size)

-- a range for each block
pub record AreRanges (blocks : List Block) (ranges : List Ranged) : Type 0 where
  pub as_many : length ranges ≡ length blocks
  pub each : (i : ℕ) (x : Block) (range : Ranged) → slice_get blocks i ≡ Some x → slice_get ranges i ≡ Some range → IsRangeOf blocks i x range

-- what a section is ordered by: its address and its size at read, and its position
abbrev pub key_at : Option ImageSection → ℕ → ℕ × ℕ × ℕ
key_at None position = (0, 0, position)
key_at (Some s) position = (s.sh_addr, s.sh_size, position)

abbrev pub old_key : Image → ℕ → ℕ × ℕ × ℕ
old_key image position = key_at (slice_get image.sections position) position
