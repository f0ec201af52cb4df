-- Which two blocks overlap and never move, and in which round that is found.
use Rattle.std.specs.Prelude.{ℕ, ◌≡◌, ◌<◌, ◌⊎◌, List, [], ◌∷◌, length, true, false, Option, Some, None, IsTrue, if◌then◌else◌}
use Rattle.elf_format.specs.Image.{Image}
use Rattle.elf_format.specs.Options.{first_there}
use Rattle.elf_layout_plan.specs.Blocks.{Block, is_stuck_pair}
use Rattle.elf_layout_plan.specs.Memory.{Resized, blocks_with}
use Rattle.elf_layout_plan.specs.Plan.{resized}
use Rattle.elf_layout_plan.specs.Refusals.{do_sizes_of_image_fit}
use Rattle.elf_layout_plan.specs.Rounds.{AreRounds, are_chosen, do_move, headers_needed, is_stuck_with, leads_to}
use Rattle.elf_layout_reasons.specs.declared.stuck.TheConstants.{MOST_BLOCKS}

-- ## Pairs

-- a block and the first of others that overlaps it where neither can move, the earlier one first
unfoldable pub first_partner : Block → List Block → Option (Block × Block)
first_partner b [] = None
first_partner b (c ∷ cs) =
    if is_stuck_pair b c then Some (b, c)
    else if is_stuck_pair c b then Some (c, b)
    else first_partner b cs

-- the first two blocks of a list that overlap where neither can move, the earlier one first
unfoldable pub first_pair : List Block → Option (Block × Block)
first_pair [] = None
first_pair (b ∷ bs) = first_there (first_partner b bs) (first_pair bs)

-- ## Rounds

-- some sections move in a round that looks with so many program headers more, and need that many
pub record IsRound (r : Resized) (looked needed : ℕ) : Type 0 where
  pub moved : List ℕ
  pub move : IsTrue (do_move r looked moved)
  pub chosen : IsTrue (are_chosen r looked moved)
  pub need : needed ≡ headers_needed r moved

-- rounds lead to a number of program headers with which two blocks overlap that never move
pub record IsStuckInRound (r : Resized) (looked : ℕ) : Type 0 where
  pub before : List (List ℕ)
  pub lead : IsTrue (leads_to r 0 before looked)
  pub stuck : is_stuck_with r looked ≡ true

-- rounds come to an end
pub record DoRoundsEnd (r : Resized) : Type 0 where
  pub before : List (List ℕ)
  pub looked : ℕ
  pub moved : List ℕ
  pub ended : AreRounds r before looked moved

-- rounds lead to such a number, with more blocks than are compared
pub record HasManyBlocks (r : Resized) : Type 0 where
  pub looked : ℕ
  pub round : IsStuckInRound r looked
  pub many : MOST_BLOCKS < length (blocks_with r looked)

-- a new size or the offset of a text is past its field, or rounds come to an end, or there are too many blocks
abbrev pub HasNoStuckPair : Image → Type 0
HasNoStuckPair image = (do_sizes_of_image_fit image ≡ false) ⊎ DoRoundsEnd (resized image) ⊎ HasManyBlocks (resized image)
