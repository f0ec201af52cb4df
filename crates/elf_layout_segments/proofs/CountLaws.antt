-- How many elements of lists pass tests, and how many numbers in rising order lie below another one.
use Rattle.std.proofs.Common.{◌≡◌, ℕ, zero, suc, ◌+◌, ◌≤◌, Bool, true, false, not, ◌&&◌, ◌||◌, cond, List, [], ◌∷◌, length, map, refl, sym, ap, ◌∙◌, inl, inr, arith}
use Rattle.std.specs.Prelude.{count_by, filter, nat_le, nat_lt, ◌==◌, IsPermutation}
use Rattle.std.specs.List.{AllWithin, list_all, list_any}
use Rattle.std.proofs.lemmas.Bool.{eq-eqb, le-leb, le-ltb, lt-leb, lt-ltb, ltb-true, ne_eqb, true≢false, cases_lt}
use Rattle.std.proofs.lemmas.List.Sums.{sum_by-cons}
use Rattle.std.proofs.lemmas.List.Sorted.{sum_by-IsPermutation}
use Rattle.elf_format.specs.declared.range.Range.{Range}
use Rattle.elf_format.specs.Ranges.{end_of}
use Rattle.elf_layout_segments.specs.InOrder.{is_in}

-- ## Counts

module _ {X : Type 0} (p : X → Bool) where
  pub count-cons : (x : X) (xs : List X) → count_by p (x ∷ xs) ≡ cond (p x) 1 0 + count_by p xs
  count-cons x xs = sum_by-cons (λ y. cond (p y) 1 0) x xs

  pub count-permutation : (xs ys : List X) → IsPermutation xs ys → count_by p ys ≡ count_by p xs
  count-permutation xs ys same = sum_by-IsPermutation (λ y. cond (p y) 1 0) xs ys same

  -- some elements pass where at least one does
  pub some_counted : (n : ℕ) (xs : List X) → nat_lt n (n + count_by p xs) ≡ list_any p xs
  some_counted n [] = le-ltb n (n + 0) (omega arith)
  some_counted n (x ∷ xs) = ap (λ k. nat_lt n (n + k)) (count-cons x xs) ∙ by_test (p x) (some_counted n xs)
    where
      by_test : (b : Bool) → nat_lt n (n + count_by p xs) ≡ list_any p xs → nat_lt n (n + (cond b 1 0 + count_by p xs)) ≡ (b || list_any p xs)
      by_test true rest = lt-ltb n (n + (1 + count_by p xs)) (omega arith)
      by_test false rest = ap (λ k. nat_lt n (n + k)) (let e : 0 + count_by p xs ≡ count_by p xs = omega arith in e) ∙ rest

  -- no element passes where the count is 0
  pub none_counted : (n : ℕ) (xs : List X) → (n + count_by p xs == n) ≡ list_all (λ x. not (p x)) xs
  none_counted n [] = eq-eqb (n + 0) n (omega arith)
  none_counted n (x ∷ xs) = ap (λ k. n + k == n) (count-cons x xs) ∙ by_test (p x) (none_counted n xs)
    where
      by_test : (b : Bool) → (n + count_by p xs == n) ≡ list_all (λ y. not (p y)) xs
          → (n + (cond b 1 0 + count_by p xs) == n) ≡ (not b && list_all (λ y. not (p y)) xs)
      by_test true rest = ne_eqb (n + (1 + count_by p xs)) n (λ e. omega (arith, e))
      by_test false rest = ap (λ k. n + k == n) (let e : 0 + count_by p xs ≡ count_by p xs = omega arith in e) ∙ rest

  -- the elements before a place pass, those from it on don't
  pub counted_at : (xs : List X) (i : ℕ) → AllWithin (λ y. p y ≡ true) xs 0 i → AllWithin (λ y. p y ≡ false) xs i (length xs) → i ≤ length xs → count_by p xs ≡ i
  counted_at [] i pass fail h = omega (arith, h)
  counted_at (x ∷ xs) zero pass fail h =
      let first : p x ≡ false = fail 0 x (omega arith) (omega arith) in
      count-cons x xs ∙ ap (λ b. cond b 1 0 + count_by p xs) first
      ∙ ap (λ n. 0 + n) (counted_at xs 0 (λ k d l g. absurd (omega (arith, g))) (λ k d l g. fail (suc k) d (omega arith) (omega (arith, g))) (omega arith))
  counted_at (x ∷ xs) (suc i) pass fail h =
      let first : p x ≡ true = pass 0 x (omega arith) (omega arith) in
      let rest : count_by p xs ≡ i = counted_at xs i (λ k d l g. pass (suc k) d (omega arith) (omega (arith, g))) (λ k d l g. fail (suc k) d (omega (arith, l)) (omega (arith, g))) (omega (arith, h)) in
      count-cons x xs ∙ ap (λ b. cond b 1 0 + count_by p xs) first ∙ omega (arith, rest)

-- of the elements that pass a test some pass a narrower one, and the others don't
pub count-parted : {X : Type 0} → (p q : X → Bool) → ((x : X) → q x ≡ true → p x ≡ true) → (xs : List X)
    → count_by p xs ≡ count_by q xs + count_by (λ x. p x && not (q x)) xs
count-parted p q narrower [] = omega arith
count-parted {X} p q narrower (x ∷ xs) =
    count-cons p x xs ∙ by_tests (p x) (q x) (narrower x) (count-parted p q narrower xs)
    ∙ sym (ap (λ n. n + count_by (λ y. p y && not (q y)) (x ∷ xs)) (count-cons q x xs) ∙ ap (λ n. cond (q x) 1 0 + count_by q xs + n) (count-cons (λ y. p y && not (q y)) x xs))
  where
    by_tests : (a b : Bool) → (b ≡ true → a ≡ true) → count_by p xs ≡ count_by q xs + count_by (λ y. p y && not (q y)) xs
        → cond a 1 0 + count_by p xs ≡ (cond b 1 0 + count_by q xs) + (cond (a && not b) 1 0 + count_by (λ y. p y && not (q y)) xs)
    by_tests true true h rest = omega (arith, rest)
    by_tests true false h rest = omega (arith, rest)
    by_tests false true h rest = absurd (true≢false (sym (h refl)))
    by_tests false false h rest = omega (arith, rest)

-- two tests that agree at each element
pub count_agree : {X : Type 0} → (p q : X → Bool) → ((x : X) → p x ≡ q x) → (xs : List X) → count_by p xs ≡ count_by q xs
count_agree p q same [] = refl
count_agree p q same (x ∷ xs) =
    count-cons p x xs ∙ ap (λ b. cond b 1 0 + count_by p xs) (same x) ∙ ap (λ n. cond (q x) 1 0 + n) (count_agree p q same xs) ∙ sym (count-cons q x xs)

pub any_agree : {X : Type 0} → (p q : X → Bool) → ((x : X) → p x ≡ q x) → (xs : List X) → list_any p xs ≡ list_any q xs
any_agree p q same [] = refl
any_agree p q same (x ∷ xs) = ap (λ b. b || list_any p xs) (same x) ∙ ap (λ b. q x || b) (any_agree p q same xs)

pub all_agree : {X : Type 0} → (p q : X → Bool) → ((x : X) → p x ≡ q x) → (xs : List X) → list_all p xs ≡ list_all q xs
all_agree p q same [] = refl
all_agree p q same (x ∷ xs) = ap (λ b. b && list_all p xs) (same x) ∙ ap (λ b. q x && b) (all_agree p q same xs)

-- as many pass a test as pass a narrower one: none passes the one alone
pub as_many_pass : {X : Type 0} → (p q : X → Bool) → ((x : X) → q x ≡ true → p x ≡ true) → (xs : List X)
    → (count_by p xs == count_by q xs) ≡ list_all (λ x. not (p x && not (q x))) xs
as_many_pass p q narrower xs =
    ap (λ n. n == count_by q xs) (count-parted p q narrower xs) ∙ none_counted (λ x. p x && not (q x)) (count_by q xs) xs

-- counts and tests of what a list's picked elements give
module _ {X : Type 0} (picks : X → Bool) (f : X → ℕ) (p : ℕ → Bool) where
  pub count-picked : (xs : List X) → count_by p (map f (filter picks xs)) ≡ count_by (λ x. picks x && p (f x)) xs
  count-picked [] = refl
  count-picked (x ∷ xs) = by_test (picks x) (count-picked xs) ∙ sym (count-cons (λ y. picks y && p (f y)) x xs)
    where
      by_test : (b : Bool) → count_by p (map f (filter picks xs)) ≡ count_by (λ y. picks y && p (f y)) xs
          → count_by p (map f (cond b (x ∷ filter picks xs) (filter picks xs))) ≡ cond (b && p (f x)) 1 0 + count_by (λ y. picks y && p (f y)) xs
      by_test true rest = count-cons p (f x) (map f (filter picks xs)) ∙ ap (λ n. cond (p (f x)) 1 0 + n) rest
      by_test false rest = rest ∙ omega arith

  pub any-picked : (xs : List X) → list_any p (map f (filter picks xs)) ≡ list_any (λ x. picks x && p (f x)) xs
  any-picked [] = refl
  any-picked (x ∷ xs) = by_test (picks x) (any-picked xs)
    where
      by_test : (b : Bool) → list_any p (map f (filter picks xs)) ≡ list_any (λ y. picks y && p (f y)) xs
          → list_any p (map f (cond b (x ∷ filter picks xs) (filter picks xs))) ≡ (b && p (f x) || list_any (λ y. picks y && p (f y)) xs)
      by_test true rest = ap (λ b. p (f x) || b) rest
      by_test false rest = rest

-- ## Numbers in a range

below_wider : (a b : ℕ) → a ≤ b → (x : ℕ) → nat_lt x a ≡ true → nat_lt x b ≡ true
below_wider a b h x less = lt-ltb x b (omega (arith, h, ltb-true x a less))

pub not_below : (a x : ℕ) → not (nat_lt x a) ≡ nat_le a x
not_below a x = elim (cases_lt x a) [
  | inl less ↦ ap not (lt-ltb x a less) ∙ sym (lt-leb a x less)
  | inr more ↦ ap not (le-ltb x a more) ∙ sym (le-leb a x more)
]

and_swap : (a b : Bool) → (a && b) ≡ (b && a)
and_swap true true = refl
and_swap true false = refl
and_swap false true = refl
and_swap false false = refl

pub some_between : (part : Range) (xs : List ℕ) → nat_lt (count_by (λ x. nat_lt x part.start) xs) (count_by (λ x. nat_lt x (end_of part)) xs) ≡ list_any (is_in part) xs
some_between part xs =
    let a : ℕ = part.start in
    let b : ℕ = end_of part in
    ap (nat_lt (count_by (λ x. nat_lt x a) xs)) (count-parted (λ x. nat_lt x b) (λ x. nat_lt x a) (below_wider a b (omega arith)) xs)
    ∙ some_counted (λ x. nat_lt x b && not (nat_lt x a)) (count_by (λ x. nat_lt x a) xs) xs
    ∙ any_agree (λ x. nat_lt x b && not (nat_lt x a)) (is_in part) (λ x. and_swap (nat_lt x b) (not (nat_lt x a)) ∙ ap (λ t. t && nat_lt x b) (not_below a x)) xs
