-- Look-ups in runs of buckets, apart from the bytes of a table.
use Rattle.std.proofs.Common.{◌≡◌, ◌≢◌, ℕ, zero, suc, ◌+◌, ◌-◌, ◌<◌, ◌≤◌, List, length, drop, Bool, true, false, not, [], ◌∷◌, refl, sym, ap, ◌∙◌, inl, inr, Option, Some, None, arith}
use Rattle.std.specs.Prelude.{◌==◌}
use Rattle.std.specs.List.{slice_get}
use Rattle.std.proofs.lemmas.Bool.{eqb-true, eq-eqb, cases_lt, false≢true}
use Rattle.std.proofs.lemmas.Option.{none-some, same_Some, slice_get_within}
use Rattle.elf_hashes.specs.Buckets.{AreBucketed, next_in}
use Rattle.elf_hashes.specs.Gnu.{ends}
use Rattle.elf_hashes.proofs.ListLaws.{slice_get-drop}
use Rattle.elf_hashes.proofs.ChainLaws.{IsFirstInNone, next_is, next_there, not_first}

-- behind a symbol that isn't the last of its bucket stands one of it
next_too : (b : ℕ) (xs : List (Option ℕ)) → ends b xs ≡ false → slice_get xs 0 ≡ Some (Some b)
next_too b [] e = absurd (false≢true (sym e))
next_too b (None ∷ xs) e = absurd (false≢true (sym e))
next_too b (Some c ∷ xs) e = ap (λ (n : ℕ). Some (Some n)) (eqb-true c b (by_test (c == b) e))
  where
    by_test : (t : Bool) → not t ≡ false → t ≡ true
    by_test true h = refl
    by_test false h = absurd (false≢true (sym h))

-- where a symbol of the bucket stands behind another one, that isn't the last
not_last : (b : ℕ) (xs : List (Option ℕ)) → slice_get xs 0 ≡ Some (Some b) → ends b xs ≡ false
not_last b [] at = absurd (none-some (Some b) at)
not_last b (None ∷ xs) at = absurd (none-some b (same_Some None (Some b) at))
not_last b (Some c ∷ xs) at = ap not (eq-eqb c b (same_Some c b (same_Some (Some c) (Some b) at)))

-- from the first of the bucket on all are of it
along : (b : ℕ) (xs : List (Option ℕ)) (first n : ℕ) → slice_get xs first ≡ Some (Some b)
    → ((j : ℕ) → first ≤ j → j < first + n → slice_get xs j ≡ Some (Some b) → ends b (drop (suc j) xs) ≡ false)
    → slice_get xs (first + n) ≡ Some (Some b)
along b xs first zero at on = let same : first + 0 ≡ first = omega arith in ap (slice_get xs) same ∙ at
along b xs first (suc n) at on =
    let here : slice_get xs (first + n) ≡ Some (Some b) = along b xs first n at (λ j from less there. on j from (omega (arith, less)) there) in
    let next : slice_get (drop (suc (first + n)) xs) 0 ≡ Some (Some b) =
    next_too b (drop (suc (first + n)) xs) (on (first + n) (omega arith) (omega arith) here) in
    let place : first + suc n ≡ suc (first + n) + 0 = omega arith in
    ap (slice_get xs) place ∙ sym (slice_get-drop xs (suc (first + n)) 0) ∙ next

-- a run comes to symbols of its bucket alone
pub run_only : (b : ℕ) (xs : List (Option ℕ)) (first i : ℕ) → next_in b 0 xs ≡ first → first ≢ 0 → first ≤ i
    → ((j : ℕ) → first ≤ j → j < i → slice_get xs j ≡ Some (Some b) → ends b (drop (suc j) xs) ≡ false)
    → slice_get xs i ≡ Some (Some b)
run_only b xs first i is_first some from_first on =
    let (d, is, there) = next_is b 0 xs first is_first some in
    let same : first ≡ d = omega (arith, is) in
    let end : first + (i - first) ≡ i = omega (arith, from_first) in
    ap (slice_get xs) (sym end)
    ∙ along b xs first (i - first) (ap (slice_get xs) same ∙ there) (λ j from less here. on j from (omega (arith, less, end)) here)

-- between two symbols of a bucket stand only symbols of that bucket
between : (xs : List (Option ℕ)) (b e j i : ℕ) → AreBucketed xs → slice_get xs e ≡ Some (Some b) → slice_get xs i ≡ Some (Some b) → e ≤ j → j ≤ i → slice_get xs j ≡ Some (Some b)
between xs b e j i ordered at_e at_i from less = elim (cases_lt e j) [
  | inr past ↦ (let same : j ≡ e = omega (arith, past, from) in ap (slice_get xs) same ∙ at_e)
  | inl before ↦
      let inside : i < length xs = slice_get_within xs i (Some b) at_i in
      let (c, at_c, low) = ordered e j b before (omega (arith, less, inside)) at_e in
      elim (cases_lt j i) [
        | inr past ↦ (let same : j ≡ i = omega (arith, past, less) in ap (slice_get xs) same ∙ at_i)
        | inl more ↦
            let (d, at_d, high) = ordered j i c more inside at_c in
            let last : d ≡ b = same_Some d b (same_Some (Some d) (Some b) (sym at_d ∙ at_i)) in
            let same : c ≡ b = omega (arith, low, high, last) in
            at_c ∙ ap (λ (n : ℕ). Some (Some n)) same
      ]
]

-- The run of a bucket comes to a symbol: from the bucket's first one on, all are of the bucket and none before it is the last.
pub record RunsTo (xs : List (Option ℕ)) (b i : ℕ) : Type 0 where
  pub is_first : next_in b 0 xs ≢ 0
  pub from_first : next_in b 0 xs ≤ i
  pub goes_on : (j : ℕ) → next_in b 0 xs ≤ j → j < i → (slice_get xs j ≡ Some (Some b)) × (ends b (drop (suc j) xs) ≡ false)

pub run_all : (xs : List (Option ℕ)) (b i : ℕ) → IsFirstInNone xs → AreBucketed xs → slice_get xs i ≡ Some (Some b) → RunsTo xs b i
run_all xs b i none ordered at =
    let (e, within, told, here) = next_there b 0 xs i at in
    let first : next_in b 0 xs ≡ e = told ∙ omega arith in
    record {
      is_first = λ z. not_first xs b e none here (sym first ∙ z);
      from_first = omega (arith, first, within);
      goes_on = λ j from less.
          let at_j = between xs b e j i ordered here at (omega (arith, first, from)) (omega (arith, less)) in
          let at_next = between xs b e (suc j) i ordered here at (omega (arith, first, from)) (omega (arith, less)) in
          let zero_place : suc j + 0 ≡ suc j = omega arith in
          (at_j, not_last b (drop (suc j) xs) (slice_get-drop xs (suc j) 0 ∙ ap (slice_get xs) zero_place ∙ at_next));
    }
