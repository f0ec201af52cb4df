-- Blocks of memory: which two overlap, and which of the two moves.
use Rattle.std.specs.Prelude.{ℕ, ◌+◌, List, [], ◌∷◌, ◌++◌, Bool, false, ◌&&◌, ◌||◌, not, Option, None, Some, filter, nat_le, nat_lt, ◌==◌, if◌then◌else◌}
use Rattle.std.specs.List.{filter_map, list_all, list_any}
use Rattle.elf_format.specs.Options.{is_one_of, is_some_and}
use Rattle.elf_layout_plan.specs.Marks.{marked_of, marks}

-- A range of memory that something takes, perhaps an empty one.
pub record Block : Type 0 where
  pub start : ℕ
  pub size : ℕ
  -- how readily the block moves, the more the greater; 0 where it can't move
  pub priority : ℕ
  -- the position of the section whose block it is
  pub section : Option ℕ
  -- what the block is to hold can't stand where it stood: it was empty, or lost the loaded segment that it stood in
  pub is_displaced : Bool
  -- the block marks the start of a loaded segment
  pub is_load_start : Bool

-- what is no section comes before all sections, and these come by their positions
abbrev pub section_rank : Option ℕ → ℕ
section_rank None = 1
section_rank (Some position) = position + 2

-- how blocks come that start together and have one size: the starts of loaded segments are first
abbrev pub rank : Block → ℕ
rank b = if b.is_load_start then 0 else section_rank b.section

-- the first of two blocks is the earlier one: by where they start, then by their sizes, then by their ranks
abbrev pub is_earlier : Block → Block → Bool
is_earlier a b =
    nat_lt a.start b.start || a.start == b.start && (nat_lt a.size b.size || a.size == b.size && nat_le (rank a) (rank b))

-- a displaced block overlaps the start of every loaded segment
abbrev pub is_kept_out : Block → Block → Bool
is_kept_out a b = a.is_displaced && b.is_load_start || a.is_load_start && b.is_displaced

-- the first of two blocks is the earlier one, and ends past the start of the later one, or one of them is kept out by the other
abbrev pub overlaps : Block → Block → Bool
overlaps earlier later = is_earlier earlier later && (nat_lt later.start (earlier.start + earlier.size) || is_kept_out earlier later)

-- two blocks overlap, and neither can move
abbrev pub is_stuck_pair : Block → Block → Bool
is_stuck_pair earlier later = overlaps earlier later && earlier.priority == 0 && later.priority == 0

-- two blocks overlap, and the earlier one moves: it can, and no less readily than the later one
abbrev pub earlier_moves : Block → Block → Bool
earlier_moves earlier later = overlaps earlier later && nat_lt 0 earlier.priority && nat_le later.priority earlier.priority

-- two blocks overlap, and the later one moves, more readily than the earlier one
abbrev pub later_moves : Block → Block → Bool
later_moves earlier later = overlaps earlier later && nat_lt earlier.priority later.priority

-- ## Lists of blocks, in any order

-- a test holds of two blocks at different places of the list, one way round or the other
unfoldable pub some_two : (Block → Block → Bool) → List Block → Bool
some_two test [] = false
some_two test (b ∷ bs) = list_any (λ c. test b c || test c b) bs || some_two test bs

-- the block is that of the section at a position
abbrev pub is_block_of : ℕ → Block → Bool
is_block_of position b = is_some_and (λ p. p == position) b.section

-- the block is that of one of the sections
abbrev pub is_block_of_some : List ℕ → Block → Bool
is_block_of_some positions b = is_some_and (is_one_of positions) b.section

-- Two blocks overlap, and neither can move.
abbrev pub is_stuck : List Block → Bool
is_stuck blocks = some_two is_stuck_pair blocks

-- No two of the blocks overlap but where one is of a section that moves.
abbrev pub stay_apart : List ℕ → List Block → Bool
stay_apart moved blocks =
    not (some_two (λ a b. overlaps a b && not (is_block_of_some moved a) && not (is_block_of_some moved b)) blocks)

-- The section's block overlaps another one against which it moves.
abbrev pub has_cause : List Block → ℕ → Bool
has_cause blocks position =
    some_two (λ a b. is_block_of position a && earlier_moves a b || is_block_of position b && later_moves a b) blocks

-- Each of the sections moves for a cause.
abbrev pub have_causes : List Block → List ℕ → Bool
have_causes blocks moved = list_all (has_cause blocks) moved

-- ## Which of the answers it is

-- Several lists of sections may have causes and leave the others apart: of three blocks that overlap one after the other the second
-- may move alone, or the third with it. That the blocks are looked through in their order says which list it is.

-- a block is put before the first one that it is earlier than
unfoldable pub put_in : Block → List Block → List Block
put_in b [] = b ∷ []
put_in b (c ∷ cs) = if is_earlier b c then b ∷ c ∷ cs else c ∷ put_in b cs

-- the blocks in their order
unfoldable pub in_order : List Block → List Block
in_order [] = []
in_order (b ∷ bs) = put_in b (in_order bs)

-- of blocks in their order, those that move
abbrev pub movers_in_order : List Block → List Block
movers_in_order blocks = marked_of blocks (marks earlier_moves later_moves blocks)

-- some loaded segment starts at one of the blocks
abbrev pub has_load : List Block → Bool
has_load blocks = list_any (λ b. b.is_load_start) blocks

-- a displaced block, where there is a loaded segment
abbrev pub moves_as_displaced : Bool → Block → Bool
moves_as_displaced loaded b = loaded && b.is_displaced

-- The blocks that move: those that are kept out, and those of the others that move when these are looked through in their order.
unfoldable pub movers : List Block → List Block
movers blocks =
    filter (λ b. moves_as_displaced (has_load blocks) b) blocks
    ++ movers_in_order (in_order (filter (λ b. not (moves_as_displaced (has_load blocks) b)) blocks))

-- the sections whose blocks move
abbrev pub moving_sections : List Block → List ℕ
moving_sections blocks = filter_map (λ b. b.section) (movers blocks)

-- These are the sections whose blocks move, told in any order.
abbrev pub are_moving : List Block → List ℕ → Bool
are_moving blocks moved = list_all (is_one_of (moving_sections blocks)) moved && list_all (is_one_of moved) (moving_sections blocks)
