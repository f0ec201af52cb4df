-- A pair that is found in a round stands against every plan, and what is known of an image with its sizes is known of the image.
use Rattle.std.proofs.Common.{◌≡◌, ◌+◌, ◌-◌, ◌<◌, ℕ, List, true, false, Option, None, Some, sym, ap, ◌∙◌, subst, inl, inr, length}
use Rattle.std.specs.Prelude.{IfNone}
use Rattle.elf_layout_plan.specs.Blocks.{Block}
use Rattle.elf_layout_plan.specs.Memory.{Resized, blocks_with}
use Rattle.elf_layout_plan.specs.Plan.{most_added, resized}
use Rattle.elf_layout_plan.specs.Rounds.{is_stuck_with}
use Rattle.elf_layout_moves.specs.Inner.{IsResized}
use Rattle.elf_layout_moves.specs.Limits.{Covers, end_with}
use Rattle.elf_layout_moves.proofs.ForCallers.{resized_is}
use Rattle.elf_layout_segments.specs.declared.forecasts.Forecast.{Forecast}
use Rattle.elf_layout_segments.specs.Forecasts.{IsForecast, needed_at}
use Rattle.elf_layout_segments.proofs.RoundSteps.{AreSoFar, nearer, none_so_far, one_more}
use Rattle.elf_layout_reasons.specs.declared.stuck.StuckPair.{StuckPair}
use Rattle.elf_layout_reasons.specs.Pair.{IsFirstPair, IsStuckPair}
use Rattle.elf_layout_reasons.specs.Stuck.{DoRoundsEnd, HasManyBlocks, HasNoStuckPair, IsRound, IsStuckInRound, first_pair}
use Rattle.elf_layout_reasons.specs.declared.stuck.TheConstants.{MOST_BLOCKS}
use Rattle.elf_layout_reasons.proofs.PairSteps.{none_stuck, pair_is}

-- two blocks that are stuck make a pair
pub stuck_there : (r : Resized) (looked : ℕ) (blocks : List Block) → is_stuck_with r looked ≡ true → blocks ≡ blocks_with r looked → first_pair blocks ≡ None → ⊥
stuck_there r looked blocks stuck same none =
    let isnt : is_stuck_with r looked ≡ false = none_stuck (blocks_with r looked) (ap first_pair (sym same) ∙ none) in
    cc (stuck, isnt)

pair_at : (r : Resized) (pair : StuckPair) → IsStuckInRound r pair.looked → first_pair (blocks_with r pair.looked) ≡ Some (pair.earlier, pair.later) → IsStuckPair r pair
pair_at r pair round first =
    let p = pair_is (blocks_with r pair.looked) pair.earlier pair.later first in
    record {
      before = round.before;
      lead = round.lead;
      first = first;
      earlier_place = p.earlier_place;
      later_place = p.later_place;
      apart = p.apart;
      earlier_there = p.earlier_there;
      later_there = p.later_there;
      stuck = p.stuck;
      no_plan = record { before = round.before; looked = pair.looked; lead = round.lead; stuck = round.stuck };
    }

-- the pair of a round stands against every plan of the image
pub pair_stuck : (r : Resized) (looked : ℕ) (pair : StuckPair) → IsResized r → IsStuckInRound r looked → IsFirstPair r looked pair → IsStuckPair (resized r.image) pair
pair_stuck r looked pair is round first =
    let P : ℕ → Type 0 = λ n. IsStuckInRound r n in
    let Q : ℕ → Type 0 = λ n. first_pair (blocks_with r n) ≡ Some (pair.earlier, pair.later) in
    let R : Resized → Type 0 = λ s. IsStuckPair s pair in
    subst R (sym (resized_is r is)) (pair_at r pair (subst P (sym first.counted) round) (subst Q (sym first.counted) first.first))

pub no_pair : (r : Resized) → IsResized r → DoRoundsEnd r → HasNoStuckPair r.image
no_pair r is end = inr (let P : Resized → Type 0 = DoRoundsEnd in inl (subst P (sym (resized_is r is)) end))

-- a pair isn't looked for among so many blocks
pub too_many : (r : Resized) (looked : ℕ) → IsResized r → IsStuckInRound r looked → MOST_BLOCKS < length (blocks_with r looked) → HasNoStuckPair r.image
too_many r looked is round many =
    let P : Resized → Type 0 = HasManyBlocks in
    inr (inr (subst P (sym (resized_is r is)) (record { looked = looked; round = round; many = many })))

pub none_of_many : (r : Resized) (looked : ℕ) (answer : Option StuckPair) → IsResized r → IsStuckInRound r looked → IfNone answer (MOST_BLOCKS < length (blocks_with r looked)) → IfNone answer (HasNoStuckPair r.image)
none_of_many r looked None is round many = too_many r looked is round many
none_of_many r looked (Some pair) is round many = many

-- ## Rounds so far

-- rounds lead to a number of program headers
pub record AreBefore (r : Resized) (looked : ℕ) : Type 0 where
  pub count : ℕ
  pub so_far : AreSoFar r looked count

pub none_before : (r : Resized) → AreBefore r 0
none_before r = record { count = 1; so_far = none_so_far r }

pub stuck_now : (r : Resized) (looked : ℕ) → AreBefore r looked → is_stuck_with r looked ≡ true → IsStuckInRound r looked
stuck_now r looked b stuck = record { before = b.so_far.before; lead = b.so_far.lead; stuck = stuck }

pub one_before : (r : Resized) (looked needed : ℕ) → AreBefore r looked → IsRound r looked needed → looked < needed → AreBefore r needed
one_before r looked needed b round more =
    record { count = b.count + 1; so_far = one_more r looked b.count needed round.moved b.so_far round.move round.chosen round.need more }

pub nearer_end : (r : Resized) (looked needed : ℕ) → IsRound r looked needed → looked < needed → most_added r.image - needed < most_added r.image - looked
nearer_end r looked needed round more = nearer r looked needed round.moved round.need more

-- ## What a forecast says of a round

-- what a forecast says is what the sections that move need
pub round_of : (r : Resized) (f : Forecast) (looked end needed : ℕ) → IsForecast r f → Covers r f.from f.bound looked → end ≡ end_with r looked → needed ≡ needed_at f end → IsRound r looked needed
round_of r f looked end needed is covers at says =
    let (moved, move, chosen) = is.lists looked covers in
    record { moved = moved; move = move; chosen = chosen; need = says ∙ ap (needed_at f) at ∙ is.needs looked moved covers move chosen }
