-- Blocks of memory in the order of their starts: which two overlap, and which of the two moves.
use Rattle.std.specs.Prelude.{ℕ, ◌≡◌, ◌+◌, ◌<◌, ◌≤◌, ◌⊎◌, List, Bool, true, false, ◌&&◌, Some, nat_le, nat_lt, slice_get}
use Rattle.elf_layout_plan.specs.declared.block.Block.{Block}
use Rattle.elf_layout_plan.specs.Marks.{marks}

-- where a block ends, which may be past the last address of 64 bits
abbrev pub end_of : Block → ℕ
end_of b = b.start + b.size

-- the earlier of two blocks ends past the start of the later one
abbrev pub Overlap : Block → Block → Type 0
Overlap earlier later = later.start < end_of earlier

-- the earlier of two blocks ends before the start of the later one: they may touch
abbrev pub IsApart : Block → Block → Type 0
IsApart earlier later = end_of earlier ≤ later.start

-- the first of two blocks is the earlier one: by where they start, and then by their sizes
abbrev pub IsEarlier : Block → Block → Type 0
IsEarlier a b = (a.start < b.start) ⊎ ((a.start ≡ b.start) × (a.size ≤ b.size))

-- two blocks overlap, and neither can move
pub record IsStuck (earlier later : Block) : Type 0 where
  pub overlap : Overlap earlier later
  pub earlier_stays : earlier.priority ≡ 0
  pub later_stays : later.priority ≡ 0

-- of two blocks that overlap the earlier one moves: it can, and no less readily than the later one
pub record EarlierMoves (earlier later : Block) : Type 0 where
  pub overlap : Overlap earlier later
  pub can : 0 < earlier.priority
  pub readily : later.priority ≤ earlier.priority

-- of two blocks that overlap the later one moves, more readily than the earlier one
pub record LaterMoves (earlier later : Block) : Type 0 where
  pub overlap : Overlap earlier later
  pub readily : earlier.priority < later.priority

-- Two of a list of blocks, the earlier one and the later one.
pub record Pair (blocks : List Block) : Type 0 where
  pub first : ℕ
  pub second : ℕ
  pub earlier : Block
  pub later : Block
  pub ordered : first < second
  pub at_first : slice_get blocks first ≡ Some earlier
  pub at_second : slice_get blocks second ≡ Some later

-- each block stands behind those that are earlier
abbrev pub IsOrdered : List Block → Type 0
IsOrdered blocks = (p : Pair blocks) → IsEarlier p.earlier p.later

-- some two blocks overlap, and neither can move
abbrev pub HasStuck : List Block → Type 0
HasStuck blocks = (p : Pair blocks) × IsStuck p.earlier p.later

-- of each two blocks that don't move the earlier one ends before the later one starts, or there
abbrev pub StayApart : List Block → List Bool → Type 0
StayApart blocks moves =
    (p : Pair blocks) → slice_get moves p.first ≡ Some false → slice_get moves p.second ≡ Some false
    → IsApart p.earlier p.later

-- a block overlaps another one against which it moves
abbrev pub HasCause : List Block → ℕ → Type 0
HasCause blocks k =
    (p : Pair blocks)
    × (((p.first ≡ k) × EarlierMoves p.earlier p.later) ⊎ ((p.second ≡ k) × LaterMoves p.earlier p.later))

-- each block that moves does so against one that it overlaps
abbrev pub MoveForCause : List Block → List Bool → Type 0
MoveForCause blocks moves = (k : ℕ) → slice_get moves k ≡ Some true → HasCause blocks k

-- ## Which of the blocks move

-- of two blocks that overlap the earlier one moves, as a test
abbrev pub earlier_moves : Block → Block → Bool
earlier_moves earlier later = nat_lt later.start (end_of earlier) && nat_lt 0 earlier.priority && nat_le later.priority earlier.priority

-- of two blocks that overlap the later one moves, as a test
abbrev pub later_moves : Block → Block → Bool
later_moves earlier later = nat_lt later.start (end_of earlier) && nat_lt earlier.priority later.priority

-- The marks of blocks, looked through in their order.
abbrev pub marks_of : List Block → List Bool
marks_of blocks = marks earlier_moves later_moves blocks
