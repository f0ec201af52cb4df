-- The two blocks that overlap and never move.
use Rattle.std.specs.Prelude.{ℕ, ◌≡◌, ◌≢◌, List, Some, true, IsTrue, slice_get}
use Rattle.elf_layout_plan.specs.Blocks.{is_stuck_pair}
use Rattle.elf_layout_plan.specs.Memory.{Resized, blocks_with}
use Rattle.elf_layout_plan.specs.Plan.{IsOverlapping}
use Rattle.elf_layout_plan.specs.Rounds.{leads_to}
use Rattle.elf_layout_reasons.specs.declared.stuck.StuckPair.{StuckPair}
use Rattle.elf_layout_reasons.specs.Stuck.{first_pair}

-- Two blocks are the first two of the blocks with so many program headers more that overlap and never move.
pub record IsFirstPair (r : Resized) (looked : ℕ) (pair : StuckPair) : Type 0 where
  pub counted : pair.looked ≡ looked
  pub first : first_pair (blocks_with r looked) ≡ Some (pair.earlier, pair.later)

-- Rounds lead to a number of program headers with which the two are at different places of the image's blocks, overlap, and
-- neither can move: so there is no plan.
pub record IsStuckPair (r : Resized) (pair : StuckPair) : Type 0 where
  pub before : List (List ℕ)
  pub lead : IsTrue (leads_to r 0 before pair.looked)
  pub first : first_pair (blocks_with r pair.looked) ≡ Some (pair.earlier, pair.later)
  pub earlier_place : ℕ
  pub later_place : ℕ
  pub apart : earlier_place ≢ later_place
  pub earlier_there : slice_get (blocks_with r pair.looked) earlier_place ≡ Some pair.earlier
  pub later_there : slice_get (blocks_with r pair.looked) later_place ≡ Some pair.later
  pub stuck : is_stuck_pair pair.earlier pair.later ≡ true
  pub no_plan : IsOverlapping r
