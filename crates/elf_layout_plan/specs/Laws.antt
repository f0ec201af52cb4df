-- What is proved of rounds, and that an image has one plan.
use Rattle.std.specs.Prelude.{ℕ, ◌≡◌, ◌≤◌, List, length, IsTrue}
use Rattle.elf_format.specs.Image.{Image}
use Rattle.elf_layout_plan.specs.Memory.{Resized}
use Rattle.elf_layout_plan.specs.Plan.{IsPlan, Plan, most_added, resized}
use Rattle.elf_layout_plan.specs.Rounds.{IsAsked, leads_to}

-- Rounds lead to a number of entries that is asked for.
abbrev pub RoundsAreAsked : Type 0
RoundsAreAsked = (r : Resized) (before : List (List ℕ)) (looked : ℕ) → IsTrue (leads_to r 0 before looked) → IsAsked r looked

-- No more entries are looked with than there can be needed, and there are no more rounds before the last one.
abbrev pub RoundsEnd : Type 0
RoundsEnd = (r : Resized) (before : List (List ℕ)) (looked : ℕ) → IsTrue (leads_to r 0 before looked)
    → (looked ≤ most_added r.image) × (length before ≤ most_added r.image)

-- An image has no more than one plan.
abbrev pub PlansAreOne : Type 0
PlansAreOne = (image : Image) (one other : Plan) → IsPlan (resized image) one → IsPlan (resized image) other → one ≡ other
