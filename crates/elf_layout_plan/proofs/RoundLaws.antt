-- Rounds: what each leads to is asked for, and they come to an end.
use Rattle.std.proofs.Common.{◌≡◌, ℕ, ◌+◌, ◌≤◌, true, ◌&&◌, List, [], ◌∷◌, length, refl, subst, inl, inr, arith}
use Rattle.std.specs.Prelude.{nat_lt}
use Rattle.std.proofs.lemmas.Bool.{and_parts, eqb-true, ltb-true}
use Rattle.elf_layout_plan.specs.Blocks.{have_causes, stay_apart}
use Rattle.elf_layout_plan.specs.Laws.{RoundsAreAsked, RoundsEnd}
use Rattle.elf_layout_plan.specs.Memory.{Resized, blocks_with}
use Rattle.elf_layout_plan.specs.Plan.{most_added}
use Rattle.elf_layout_plan.specs.Rounds.{IsAsked, are_chosen, are_in_old_order, do_move, headers_needed, leads_to, sections_at}
use Rattle.elf_layout_plan.proofs.HeaderLaws.{headers_needed-le}

module _ (r : Resized) where
  -- sections that move have causes
  causes : (added : ℕ) (moved : List ℕ) → do_move r added moved ≡ true → have_causes (blocks_with r added) moved ≡ true
  causes added moved h =
      (and_parts (have_causes (blocks_with r added) moved) (stay_apart moved (blocks_with r added))
      (and_parts (have_causes (blocks_with r added) moved && stay_apart moved (blocks_with r added)) (are_in_old_order (sections_at r moved)) h).0).0

  -- what sections need that move with fewer is asked for
  needed_is_asked : (looked : ℕ) (moved : List ℕ) → do_move r looked moved ≡ true → nat_lt looked (headers_needed r moved) ≡ true
      → IsAsked r (headers_needed r moved)
  needed_is_asked looked moved move more =
      inr (looked, moved, record { less = ltb-true looked (headers_needed r moved) more; cause = causes looked moved move; need = refl })

  asked_on : (looked : ℕ) (before : List (List ℕ)) (next : ℕ) → IsAsked r looked → leads_to r looked before next ≡ true → IsAsked r next
  unfolding leads_to
  asked_on looked [] next asked h = let P : ℕ → Type 0 = IsAsked r in subst P (eqb-true looked next h) asked
  asked_on looked (moved ∷ rounds) next asked h =
      let front = and_parts (do_move r looked moved && are_chosen r looked moved && nat_lt looked (headers_needed r moved)) (leads_to r (headers_needed r moved) rounds next) h in
      let parts = and_parts (do_move r looked moved && are_chosen r looked moved) (nat_lt looked (headers_needed r moved)) front.0 in
      let move = (and_parts (do_move r looked moved) (are_chosen r looked moved) parts.0).0 in
      asked_on (headers_needed r moved) rounds next (needed_is_asked looked moved move parts.1) front.1

  -- each round looks with more than the one before it, and none with more than there can be needed
  ends_on : (looked : ℕ) (before : List (List ℕ)) (next : ℕ) → looked ≤ most_added r.image → leads_to r looked before next ≡ true
      → (next ≤ most_added r.image) × (looked + length before ≤ next)
  unfolding leads_to
  ends_on looked [] next fits h =
      let same = eqb-true looked next h in
      let P : ℕ → Type 0 = λ n. n ≤ most_added r.image in
      (subst P same fits, omega (arith, same))
  ends_on looked (moved ∷ rounds) next fits h =
      let front = and_parts (do_move r looked moved && are_chosen r looked moved && nat_lt looked (headers_needed r moved)) (leads_to r (headers_needed r moved) rounds next) h in
      let more = ltb-true looked (headers_needed r moved) (and_parts (do_move r looked moved && are_chosen r looked moved) (nat_lt looked (headers_needed r moved)) front.0).1 in
      let rest = ends_on (headers_needed r moved) rounds next (headers_needed-le r moved) front.1 in
      (rest.0, omega (arith, more, rest.1))

pub rounds_are_asked : RoundsAreAsked
rounds_are_asked r before looked h = asked_on r 0 before looked (inl refl) h

pub rounds_end : RoundsEnd
rounds_end r before looked h =
    let ends = ends_on r 0 before looked (omega arith) h in
    (ends.0, omega (arith, ends.0, ends.1))
