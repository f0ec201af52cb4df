-- With which program header tables sections move, by where these tables end.
use Rattle.std.specs.Prelude.{ℕ, ◌+◌, ◌<◌, ◌≤◌, ◌≡◌, ◌⊎◌, List, length, Bool, IsTrue, Option, Some, None, nat_le, nat_lt, ◌&&◌, ◌||◌, slice_index_or}
use Rattle.std.specs.List.{list_any}
use Rattle.elf_format.specs.Options.{is_one_of}
use Rattle.elf_layout_plan.specs.Blocks.{Block, is_block_of}
use Rattle.elf_layout_plan.specs.Memory.{Resized, table_size_with}
use Rattle.elf_layout_plan.specs.Rounds.{are_chosen, do_move}
use Rattle.elf_layout_moves.specs.declared.limits.TheConstants.{NEVER}
use Rattle.elf_layout_moves.specs.Growth.{table_start}

-- where a table ends that begins at an address, if there is one
abbrev pub end_from : Option ℕ → ℕ → ℕ
end_from None size = 0
end_from (Some start) size = start + size

-- where the program header table ends in memory, with so many entries more than the image has segments
abbrev pub end_with : Resized → ℕ → ℕ
end_with r added = end_from (table_start r) (table_size_with r added)

-- the limit of the section at a position
abbrev pub limit_at : List ℕ → ℕ → ℕ
limit_at limits position = slice_index_or limits position NEVER

-- a number of entries of which limits tell: the one that they were made with, or a greater one with which the table ends before a bound
abbrev pub Covers : Resized → ℕ → ℕ → ℕ → Type 0
Covers r from bound added = (added ≡ from) ⊎ ((from ≤ added) × (end_with r added < bound))

-- The limit of each section is the least end of the table with which it moves; and with each such table some sections move so.
pub record AreLimits (r : Resized) (from bound : ℕ) (limits : List ℕ) : Type 0 where
  pub many : length limits ≡ length r.image.sections
  pub near : (added : ℕ) → Covers r from bound added → end_with r added < NEVER
  pub tells : (added : ℕ) (moved : List ℕ) → Covers r from bound added → IsTrue (do_move r added moved) → IsTrue (are_chosen r added moved)
      → (position : ℕ) → position < length r.image.sections → is_one_of moved position ≡ nat_le (limit_at limits position) (end_with r added)
  pub lists : (added : ℕ) → Covers r from bound added → (moved : List ℕ) × IsTrue (do_move r added moved) × IsTrue (are_chosen r added moved)

-- ## Steps

-- the block is of the section, starts at an address or behind it, and before another one
abbrev pub is_reached : ℕ → ℕ → ℕ → Block → Bool
is_reached from end position b = is_block_of position b && (nat_le from b.start && nat_lt b.start end)

-- Limits so far: of sections that move, and of those of blocks that start at an address or behind it.
pub record AreLimitsOf (count from : ℕ) (moved : List ℕ) (blocks : List Block) (limits : List ℕ) : Type 0 where
  pub many : length limits ≡ count
  pub tells : (position end : ℕ) → position < count → end < NEVER
      → nat_le (limit_at limits position) end ≡ (is_one_of moved position || list_any (is_reached from end position) blocks)
