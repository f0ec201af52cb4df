-- What a longer program header table does to the blocks of memory behind it.
use Rattle.std.specs.Prelude.{ℕ, ◌+◌, ◌-◌, ◌<◌, ◌≤◌, ◌≡◌, List, ◌++◌, map, Bool, false, ◌&&◌, ◌||◌, not, Option, IsTrue, filter, nat_le, nat_lt, ◌==◌}
use Rattle.std.specs.List.{flat_map, list_all, list_any}
use Rattle.std.specs.Option.{option_map}
use Rattle.elf_format.specs.File.{loads_of}
use Rattle.elf_format.specs.Options.{is_one_of, is_some_and}
use Rattle.elf_format.specs.Ranges.{range}
use Rattle.elf_format.specs.Records.{file_header_size}
use Rattle.elf_layout_plan.specs.Blocks.{Block, is_block_of, moving_sections}
use Rattle.elf_layout_plan.specs.Memory.{Resized, block_in_load, blocks_with, edge_blocks, loaded_over, section_block, sized_sections, table_at_read, table_load, table_size_with, takes_memory}
use Rattle.elf_layout_plan.specs.Rounds.{are_in_old_order, do_move, is_stuck_with, sections_at}

-- where the program header table stands in memory, if a loaded segment had all of it
abbrev pub table_start : Resized → Option ℕ
table_start r = option_map (λ p. p.p_vaddr + (table_at_read r).start - p.p_offset) (table_load r)

-- the blocks of an image but for its program header table
abbrev pub other_blocks : Resized → List Block
other_blocks r =
    let header = range 0 (file_header_size r.read.form) in
    block_in_load header header.size (loaded_over header r.read.segments)
    ++ flat_map edge_blocks (loads_of r.image.segments)
    ++ map (section_block r) (filter (λ s. takes_memory s.kept.section) (sized_sections r))

-- the block starts where the table with fewer entries more ends or behind, and before the end of the one with more
abbrev pub is_swallowed : Resized → ℕ → ℕ → Block → Bool
is_swallowed r fewer more b =
    is_some_and (λ start. nat_le (start + table_size_with r fewer) b.start && nat_lt b.start (start + table_size_with r more)) (table_start r)

-- the longer table swallows the block of the section at a position
abbrev pub does_swallow : Resized → ℕ → ℕ → ℕ → Bool
does_swallow r fewer more position = list_any (λ b. is_block_of position b && is_swallowed r fewer more b) (other_blocks r)

-- A table that isn't empty gets longer, and swallows only what moves most readily: notes and tables.
pub record IsGrowth (r : Resized) (fewer more : ℕ) : Type 0 where
  pub longer : fewer ≤ more
  pub some : 0 < table_size_with r fewer
  pub free : is_stuck_with r fewer ≡ false
  pub readily : IsTrue (list_all (λ b. not (is_swallowed r fewer more b) || b.priority == 2) (other_blocks r))

-- The sections that move with the longer table are those that move with the shorter one, and those that it swallows.
abbrev pub LongerTablesMove : Type 0
LongerTablesMove = (r : Resized) (fewer more position : ℕ) → IsGrowth r fewer more
    → is_one_of (moving_sections (blocks_with r more)) position
    ≡ (is_one_of (moving_sections (blocks_with r fewer)) position || does_swallow r fewer more position)

-- No two blocks overlap that can't move, as they didn't with the shorter one.
abbrev pub LongerTablesFit : Type 0
LongerTablesFit = (r : Resized) (fewer more : ℕ) → IsGrowth r fewer more → is_stuck_with r more ≡ false

-- In the order in which they stood, the sections that a longer table moves may move with it, where the shorter one's may with that.
abbrev pub LongerTablesMayMove : Type 0
LongerTablesMayMove = (r : Resized) (fewer more : ℕ) (moved also : List ℕ) → IsGrowth r fewer more → IsTrue (do_move r fewer moved)
    → ((position : ℕ) → is_one_of also position ≡ (is_one_of moved position || does_swallow r fewer more position))
    → IsTrue (are_in_old_order (sections_at r also)) → IsTrue (do_move r more also)
