-- Ranges that share no place: the order in which they are listed doesn't matter, and where they are sorted by
-- their starts, neighbours tell.
use Rattle.std.proofs.Common.{◌≡◌, ◌≢◌, ◌≤◌, ◌<◌, ℕ, zero, suc, true, false, cond, eqb, leb, List, [], ◌∷◌, length, get_or, refl, sym, ap, ◌∙◌, inl, inr, arith}
use Rattle.std.specs.Prelude.{◌&&◌}
use Rattle.std.specs.List as lists
use Rattle.std.specs.List.{list_all}
use Rattle.std.specs.List.Sorted.{IsNonDecreasingBy, IsPermutation}
use Rattle.std.proofs.lemmas.Bool.{and_from, and_parts, both_ways, cases_Bool, cases_eq, cases_lt, cond-false, cond-true, eq-eqb, false_from_ne_true, le-leb, lt-leb, ne_eqb}
use Rattle.std.proofs.lemmas.Bool.Decides.{nat_tests}
use Rattle.std.proofs.lemmas.List.Edits.{length-swap, swapped_from_swap}
use Rattle.std.proofs.lemmas.List.Sorted.{IsPermutation-keeps, IsPermutation-sym}
use Rattle.std.proofs.lemmas.List.Sums.{AllPass-from_list_all, list_all-from_AllPass}
use Rattle.elf_image_placement.specs.PlacementSteps.{follows_end}
use Rattle.elf_image_rules.specs.Range.{Range}
use Rattle.elf_image_rules.specs.Ranges.{all_apart, apart, end_of}

-- ## Two ranges

-- what it is to be apart, in numbers
pub apart-empty : (a b : Range) → a.size ≡ 0 → apart a b ≡ true
apart-empty a b e = grind (arith, nat_tests)

pub apart-from_empty : (a b : Range) → b.size ≡ 0 → apart a b ≡ true
apart-from_empty a b e = grind (arith, nat_tests)

pub apart-behind : (a b : Range) → end_of a ≤ b.start → apart a b ≡ true
apart-behind a b e = grind (arith, nat_tests)

pub apart-not : (a b : Range) → 0 < a.size → 0 < b.size → a.start ≤ b.start → b.start < end_of a → apart a b ≡ false
apart-not a b first second order e = grind (arith, nat_tests)

pub apart-sym : (a b : Range) → apart a b ≡ true → apart b a ≡ true
apart-sym a b e = grind (arith, nat_tests)

-- of two ranges that are apart and aren't empty, the first ends where the second begins, or before
pub apart-order : (a b : Range) → apart a b ≡ true → 0 < a.size → 0 < b.size → a.start ≤ b.start → end_of a ≤ b.start
apart-order a b e first second order = grind (arith, nat_tests)

-- ## A list of ranges

-- each two at different places are apart
AreApart : List Range → Type 0
AreApart rs = (i j : ℕ) (d : Range) → i ≢ j → i < length rs → j < length rs → apart (get_or rs i d) (get_or rs j d) ≡ true

AreApart-from : (rs : List Range) → all_apart rs ≡ true → AreApart rs
unfolding AreApart
AreApart-from [] e i j d ne li lj = absurd (omega arith)
AreApart-from (r ∷ rs) e zero zero d ne li lj = absurd (ne refl)
AreApart-from (r ∷ rs) e zero (suc j) d ne li lj = AllPass-from_list_all (λ s. apart r s) rs (and_parts (list_all (λ s. apart r s) rs) (all_apart rs) e).0 j d (omega arith)
AreApart-from (r ∷ rs) e (suc i) zero d ne li lj = apart-sym r (get_or rs i d) (AllPass-from_list_all (λ s. apart r s) rs (and_parts (list_all (λ s. apart r s) rs) (all_apart rs) e).0 i d (omega arith))
AreApart-from (r ∷ rs) e (suc i) (suc j) d ne li lj = AreApart-from rs (and_parts (list_all (λ s. apart r s) rs) (all_apart rs) e).1 i j d (λ s. ne (ap suc s)) (omega arith) (omega arith)

all_apart-from : (rs : List Range) → AreApart rs → all_apart rs ≡ true
unfolding AreApart
all_apart-from [] h = refl
all_apart-from (r ∷ rs) h =
    and_from (list_all (λ s. apart r s) rs) (all_apart rs)
    (list_all-from_AllPass (λ s. apart r s) rs (λ k d within. h 0 (suc k) d (λ s. absurd (omega arith)) (omega arith) (omega arith)))
    (all_apart-from rs (λ i j d ne li lj. h (suc i) (suc j) d (λ s. ne (omega arith)) (omega arith) (omega arith)))

pub apart_at : (rs : List Range) → all_apart rs ≡ true → (i j : ℕ) (d : Range) → i ≢ j → i < length rs → j < length rs → apart (get_or rs i d) (get_or rs j d) ≡ true
unfolding AreApart
apart_at rs e = AreApart-from rs e

-- where the element at k stood before the elements at i and j took each other's place
place_before : ℕ → ℕ → ℕ → ℕ
place_before i j k = cond (eqb k i) j (cond (eqb k j) i k)

place_before-apart : (i j m n : ℕ) → m ≢ n → place_before i j m ≢ place_before i j n
unfolding place_before
place_before-apart i j m n ne same = ne (grind (arith, nat_tests))

place_before-lt : (i j k n : ℕ) → i < n → j < n → k < n → place_before i j k < n
unfolding place_before
place_before-lt i j k n here there within = grind (arith, nat_tests)

get_or-swap : (xs : List Range) (i j k : ℕ) (d : Range) → i < length xs → j < length xs → get_or (lists.swap xs i j) k d ≡ get_or xs (place_before i j k) d
unfolding place_before
get_or-swap xs i j k d here there =
    let moved = swapped_from_swap xs (lists.swap xs i j) i j d here there refl in
    elim (cases_eq k i) [
      | inl first ↦ rw (eq-eqb k i first) (ap (λ n. get_or (lists.swap xs i j) n d) first ∙ moved.0)
      | inr other ↦
          elim (cases_eq k j) [
            | inl second ↦ rw (ne_eqb k i other, eq-eqb k j second) (ap (λ n. get_or (lists.swap xs i j) n d) second ∙ moved.1)
            | inr neither ↦ rw (ne_eqb k i other, ne_eqb k j neither) (moved.2 k other neither)
          ]
    ]

AreApart-swap : (l : List Range) (i j : ℕ) → i < length l → j < length l → AreApart l → AreApart (lists.swap l i j)
unfolding AreApart
AreApart-swap l i j here there h m n d ne lm ln =
    let long : length (lists.swap l i j) ≡ length l = length-swap l i j in
    let step = h (place_before i j m) (place_before i j n) d (place_before-apart i j m n ne) (place_before-lt i j m (length l) here there (omega arith)) (place_before-lt i j n (length l) here there (omega arith)) in
    rw (get_or-swap l i j m d here there, get_or-swap l i j n d here there) step

apart_kept : (xs ys : List Range) → IsPermutation xs ys → all_apart xs ≡ true → all_apart ys ≡ true
apart_kept xs ys moved e = all_apart-from ys (IsPermutation-keeps xs AreApart (AreApart-from xs e) AreApart-swap ys moved)

-- the order of the ranges doesn't matter
pub all_apart-IsPermutation : (xs ys : List Range) → IsPermutation xs ys → all_apart ys ≡ all_apart xs
all_apart-IsPermutation xs ys moved =
    elim (cases_Bool (all_apart xs)) [
      | inl h ↦ apart_kept xs ys moved h ∙ sym h
      | inr h ↦ false_from_ne_true (all_apart ys) (λ e. both_ways (all_apart xs) h (apart_kept ys xs (IsPermutation-sym xs ys moved) e)) ∙ sym h
    ]

-- ## Neighbours

rises_rest : (r : Range) (rs : List Range) → IsNonDecreasingBy (λ s. s.start) (r ∷ rs) → IsNonDecreasingBy (λ s. s.start) rs
rises_rest r rs up = λ i j d order within. up (suc i) (suc j) d (omega arith) (omega arith)

rises_from : (a b : Range) (rs : List Range) → a.start ≤ b.start → IsNonDecreasingBy (λ s. s.start) (b ∷ rs) → (k : ℕ) (d : Range) → k < length (b ∷ rs) → a.start ≤ (get_or (b ∷ rs) k d).start
rises_from a b rs order up k d within = let h = up 0 k d (omega arith) within in omega (arith, h)

-- all ranges begin behind the end of the first where the next one does
behind_first : (a b : Range) (rs : List Range) → IsNonDecreasingBy (λ s. s.start) (b ∷ rs) → end_of a ≤ b.start → list_all (λ s. apart a s) (b ∷ rs) ≡ true
behind_first a b rs up behind =
    list_all-from_AllPass (λ s. apart a s) (b ∷ rs) (λ k d within. apart-behind a (get_or (b ∷ rs) k d) (let h = up 0 k d (omega arith) within in omega (arith, h)))

apart_from_all : (a : Range) (rs : List Range) → a.size ≡ 0 → list_all (λ s. apart a s) rs ≡ true
apart_from_all a rs empty = list_all-from_AllPass (λ s. apart a s) rs (λ k d within. apart-empty a (get_or rs k d) empty)

-- a range that begins behind the last end, at it, or is empty
follows_end-filled : (end : ℕ) (b : Range) (rs : List Range) → 0 < b.size → follows_end end (b ∷ rs) ≡ (leb end b.start && follows_end (end_of b) rs)
follows_end-filled end b rs filled = cond-false (eqb b.size 0) (follows_end end rs) (leb end b.start && follows_end (end_of b) rs) (ne_eqb b.size 0 (λ e. omega arith))

follows_end-empty : (end : ℕ) (b : Range) (rs : List Range) → b.size ≡ 0 → follows_end end (b ∷ rs) ≡ follows_end end rs
follows_end-empty end b rs empty = cond-true (eqb b.size 0) (follows_end end rs) (leb end b.start && follows_end (end_of b) rs) (eq-eqb b.size 0 empty)

-- an empty range changes nothing
all_apart-empty : (b : Range) (rs : List Range) → b.size ≡ 0 → all_apart (b ∷ rs) ≡ all_apart rs
all_apart-empty b rs empty = ap (λ t. t && all_apart rs) (apart_from_all b rs empty)

-- behind a range, neighbours tell whether the others are apart, from it and from each other
neighbours_tell : (a : Range) (rs : List Range) → 0 < a.size → IsNonDecreasingBy (λ s. s.start) rs → ((k : ℕ) (d : Range) → k < length rs → a.start ≤ (get_or rs k d).start)
    → follows_end (end_of a) rs ≡ all_apart (a ∷ rs)
neighbours_tell a [] filled up from = refl
neighbours_tell a (b ∷ rs) filled up from =
    let rest_up = rises_rest b rs up in
    let order : a.start ≤ b.start = from 0 b (omega arith) in
    elim (cases_eq b.size 0) [
      | inl empty ↦
          follows_end-empty (end_of a) b rs empty ∙ neighbours_tell a rs filled rest_up (λ k d within. from (suc k) d (omega arith))
          ∙ ap (λ t. t && list_all (λ s. apart a s) rs && all_apart rs) (sym (apart-from_empty a b empty))
          ∙ ap (λ t. list_all (λ s. apart a s) (b ∷ rs) && t) (sym (all_apart-empty b rs empty))
      | inr sized ↦ elim (cases_lt b.start (end_of a)) [
        | inl meets ↦
            follows_end-filled (end_of a) b rs (omega arith) ∙ ap (λ t. t && follows_end (end_of b) rs) (lt-leb (end_of a) b.start meets)
            ∙ ap (λ t. t && list_all (λ s. apart a s) rs && all_apart (b ∷ rs)) (sym (apart-not a b filled (omega arith) order meets))
        | inr behind ↦
            follows_end-filled (end_of a) b rs (omega arith) ∙ ap (λ t. t && follows_end (end_of b) rs) (le-leb (end_of a) b.start behind)
            ∙ neighbours_tell b rs (omega arith) rest_up (λ k d within. up 0 (suc k) d (omega arith) (omega arith))
            ∙ ap (λ t. t && all_apart (b ∷ rs)) (sym (behind_first a b rs up behind))
      ]
    ]

-- where ranges are sorted by their starts, neighbours tell whether all are apart
pub follows_end-all_apart : (rs : List Range) → IsNonDecreasingBy (λ s. s.start) rs → follows_end 0 rs ≡ all_apart rs
follows_end-all_apart [] up = refl
follows_end-all_apart (b ∷ rs) up =
    elim (cases_eq b.size 0) [
      | inl empty ↦ follows_end-empty 0 b rs empty ∙ follows_end-all_apart rs (rises_rest b rs up) ∙ sym (all_apart-empty b rs empty)
      | inr sized ↦
          follows_end-filled 0 b rs (omega arith) ∙ ap (λ t. t && follows_end (end_of b) rs) (le-leb 0 b.start (omega arith))
          ∙ neighbours_tell b rs (omega arith) (rises_rest b rs up) (λ k d within. up 0 (suc k) d (omega arith) (omega arith))
    ]
