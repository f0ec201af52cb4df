-- Rounds so far, and one more.
use Rattle.std.proofs.Common.{◌≡◌, ℕ, ◌+◌, ◌-◌, ◌<◌, ◌≤◌, List, [], ◌∷◌, ◌++◌, true, not, ◌&&◌, length, refl, sym, subst, arith}
use Rattle.std.specs.Prelude.{nat_lt, ◌==◌}
use Rattle.std.proofs.lemmas.Bool.{and_from, and_parts, eq-eqb, eqb-true, le-leb, lt-ltb}
use Rattle.std.proofs.lemmas.List.{length-append}
use Rattle.std.proofs.lemmas.List.Sums.{count_by-le-length}
use Rattle.elf_format.specs.File.{is_loaded}
use Rattle.elf_layout_plan.specs.declared.fault.LayoutFault.{LayoutFault}
use Rattle.elf_layout_plan.specs.declared.fault.LayoutFault.TheVariants as faults
use Rattle.elf_layout_plan.specs.Memory.{Resized}
use Rattle.elf_layout_plan.specs.Plan.{most_added}
use Rattle.elf_layout_plan.specs.Rounds.{AreRounds, are_chosen, do_move, headers_needed, leads_to}
use Rattle.elf_layout_plan.proofs.ForCallers.HeaderLaws.{headers_needed-le}
use Rattle.elf_layout_plan.proofs.ForCallers.RoundLaws.{rounds_end}
use Rattle.elf_layout_moves.specs.Inner.{IsStuckAt}
use Rattle.elf_layout_segments.specs.AnchorPositions.{IsNoEnd}

-- Rounds lead to a number of entries; the next one is of that count.
pub record AreSoFar (r : Resized) (looked count : ℕ) : Type 0 where
  pub before : List (List ℕ)
  pub lead : leads_to r 0 before looked ≡ true
  pub counted : count ≡ length before + 1

pub none_so_far : (r : Resized) → AreSoFar r 0 1
unfolding leads_to
none_so_far r = record { before = []; lead = refl; counted = refl }

leads_more : (r : Resized) (start : ℕ) (before : List (List ℕ)) (looked : ℕ) (moved : List ℕ) → leads_to r start before looked ≡ true
    → do_move r looked moved ≡ true → are_chosen r looked moved ≡ true → looked < headers_needed r moved
    → leads_to r start (before ++ moved ∷ []) (headers_needed r moved) ≡ true
unfolding leads_to
leads_more r start [] looked moved lead move chosen more =
    let n : ℕ = headers_needed r moved in
    let P : ℕ → Type 0 = λ k. (do_move r k moved && are_chosen r k moved && nat_lt k n && (n == n)) ≡ true in
    subst P (sym (eqb-true start looked lead))
    (and_from (do_move r looked moved && are_chosen r looked moved && nat_lt looked n) (n == n)
    (and_from (do_move r looked moved && are_chosen r looked moved) (nat_lt looked n)
    (and_from (do_move r looked moved) (are_chosen r looked moved) move chosen) (lt-ltb looked n more)) (eq-eqb n n refl))
leads_more r start (m ∷ ms) looked moved lead move chosen more =
    let front = and_parts (do_move r start m && are_chosen r start m && nat_lt start (headers_needed r m)) (leads_to r (headers_needed r m) ms looked) lead in
    and_from (do_move r start m && are_chosen r start m && nat_lt start (headers_needed r m)) _ front.0
    (leads_more r (headers_needed r m) ms looked moved front.1 move chosen more)

pub one_more : (r : Resized) (looked count needed : ℕ) (moved : List ℕ) → AreSoFar r looked count → do_move r looked moved ≡ true
    → are_chosen r looked moved ≡ true → needed ≡ headers_needed r moved → looked < needed → AreSoFar r needed (count + 1)
one_more r looked count needed moved so move chosen need more = record {
  before = so.before ++ moved ∷ [];
  lead = let P : ℕ → Type 0 = λ n. leads_to r 0 (so.before ++ moved ∷ []) n ≡ true in
      subst P (sym need) (leads_more r 0 so.before looked moved so.lead move chosen (omega (arith, more, need)));
  counted = omega (arith, so.counted, length-append so.before (moved ∷ []));
}

-- ## How many there are

few_added : (r : Resized) → most_added r.image ≤ length r.image.segments + 4
few_added r = omega (arith, count_by-le-length (λ p. not (is_loaded p)) r.image.segments)

-- no more than there are program headers, and four
pub few : (r : Resized) (looked count : ℕ) → AreSoFar r looked count → (looked ≤ length r.image.segments + 4) × (count ≤ length r.image.segments + 5)
few r looked count so =
    let ends = rounds_end r so.before looked so.lead in
    (omega (arith, ends.0, few_added r), omega (arith, ends.1, so.counted, few_added r))

pub few_needed : (r : Resized) (moved : List ℕ) → headers_needed r moved ≤ length r.image.segments + 4
few_needed r moved = omega (arith, headers_needed-le r moved, few_added r)

-- a further round is nearer to the last one
pub nearer : (r : Resized) (looked needed : ℕ) (moved : List ℕ) → needed ≡ headers_needed r moved → looked < needed
    → most_added r.image - needed < most_added r.image - looked
nearer r looked needed moved need more = omega (arith, need, more, headers_needed-le r moved)

-- ## How they end

pub ended : (r : Resized) (looked count needed : ℕ) (moved : List ℕ) → AreSoFar r looked count → do_move r looked moved ≡ true → are_chosen r looked moved ≡ true
    → needed ≡ headers_needed r moved → needed ≤ looked → (before : List (List ℕ)) × AreRounds r before looked moved × (count ≡ length before + 1)
ended r looked count needed moved so move chosen need enough =
    (so.before, record { lead = so.lead; move = move; chosen = chosen; enough = le-leb (headers_needed r moved) looked (omega (arith, need, enough)) }, so.counted)

pub ended_by : (r : Resized) (looked count : ℕ) (fault : LayoutFault) → AreSoFar r looked count → IsStuckAt r looked fault → IsNoEnd r fault
ended_by r looked count faults.Overlap so stuck = record { before = so.before; looked = looked; lead = so.lead; stuck = stuck }
ended_by r looked count faults.NumberTooLarge so never = never
ended_by r looked count faults.Memory so any = any
