-- Lists of which each element matches the one at its position in another list, and how many elements pass a test.
use Rattle.std.proofs.Common.{◌≡◌, ◌≤◌, ℕ, zero, suc, ◌+◌, Bool, true, false, cond, List, [], ◌∷◌, ◌++◌, refl, ap, ◌∙◌, Some, arith}
use Rattle.std.specs.Prelude.{count_by, filter, find}
use Rattle.std.specs.List.{flat_map, list_all, slice_get}
use Rattle.std.proofs.lemmas.Bool.{and_from, cond-true, false_from_ne_true}
use Rattle.std.proofs.lemmas.List.Sums.{sum_by-append, sum_by-cons}
use Rattle.std.proofs.lemmas.Option.{none-some, same_Some}

-- ## Tests of each element

-- a test that each element passes at its position
pub all-at_each : {A : Type 0} (test : A → Bool) (xs : List A) → ((i : ℕ) (x : A) → slice_get xs i ≡ Some x → test x ≡ true)
    → list_all test xs ≡ true
all-at_each test [] each = refl
all-at_each test (x ∷ xs) each = and_from (test x) (list_all test xs) (each zero x refl) (all-at_each test xs (λ i y at. each (suc i) y at))

all_step : {A : Type 0} (test : A → Bool) (x : A) (kept : List A) (b : Bool) → (b ≡ true → test x ≡ true) → list_all test kept ≡ true
    → list_all test (cond b (x ∷ kept) kept) ≡ true
all_step test x kept true passes rest = and_from (test x) (list_all test kept) (passes refl) rest
all_step test x kept false passes rest = rest

-- a test that each picked element passes at its position
pub all-picked : {A : Type 0} (test pick : A → Bool) (xs : List A)
    → ((i : ℕ) (x : A) → slice_get xs i ≡ Some x → pick x ≡ true → test x ≡ true)
    → list_all test (filter pick xs) ≡ true
all-picked test pick [] each = refl
all-picked test pick (x ∷ xs) each =
    all_step test x (filter pick xs) (pick x) (each zero x refl) (all-picked test pick xs (λ i y at. each (suc i) y at))

-- ## How many pass a test

-- one where a test passes
abbrev pub one_if : Bool → ℕ
one_if b = cond b 1 0

pub count-cons : {A : Type 0} (test : A → Bool) (x : A) (xs : List A) → count_by test (x ∷ xs) ≡ one_if (test x) + count_by test xs
count-cons test x xs = sum_by-cons (λ y. one_if (test y)) x xs

pub count-append : {A : Type 0} (test : A → Bool) (xs ys : List A) → count_by test (xs ++ ys) ≡ count_by test xs + count_by test ys
count-append test xs ys = sum_by-append (λ y. one_if (test y)) xs ys

-- none is counted where none passes
pub count-none : {A : Type 0} (test : A → Bool) (xs : List A) → ((i : ℕ) (x : A) → slice_get xs i ≡ Some x → test x ≡ false)
    → count_by test xs ≡ 0
count-none test [] each = refl
count-none test (x ∷ xs) each =
    omega (arith, count-cons test x xs, ap one_if (each zero x refl), count-none test xs (λ i y at. each (suc i) y at))

-- where each element makes no more that pass than it passes itself
pub count-flat_map : {A B : Type 0} (f : A → List B) (test : A → Bool) (made : B → Bool) (xs : List A)
    → ((x : A) → count_by made (f x) ≤ one_if (test x))
    → count_by made (flat_map f xs) ≤ count_by test xs
count-flat_map f test made [] each = omega arith
count-flat_map f test made (x ∷ xs) each = omega (
  arith,
  count-append made (f x) (flat_map f xs),
  count-cons test x xs,
  each x,
  count-flat_map f test made xs each,
)

pub one_there : {A : Type 0} (test : A → Bool) (xs : List A) (i : ℕ) (x : A) → slice_get xs i ≡ Some x → test x ≡ true → 1 ≤ count_by test xs
one_there test [] i x at passes = absurd (none-some x at)
one_there test (y ∷ ys) zero x at passes =
    let same : one_if (test y) ≡ 1 = ap (λ z. one_if (test z)) (same_Some y x at) ∙ ap one_if passes in
    omega (arith, count-cons test y ys, same)
one_there test (y ∷ ys) (suc i) x at passes = omega (arith, count-cons test y ys, one_there test ys i x at passes)

-- where no two pass, those that do stand at one position
pub one_place : {A : Type 0} (test : A → Bool) (xs : List A) (i j : ℕ) (x y : A) → count_by test xs ≤ 1 → slice_get xs i ≡ Some x
    → slice_get xs j ≡ Some y → test x ≡ true → test y ≡ true → i ≡ j
one_place test [] i j x y few x_at y_at x_is y_is = absurd (none-some x x_at)
one_place test (z ∷ zs) zero zero x y few x_at y_at x_is y_is = refl
one_place test (z ∷ zs) zero (suc j) x y few x_at y_at x_is y_is =
    let first : one_if (test z) ≡ 1 = ap (λ v. one_if (test v)) (same_Some z x x_at) ∙ ap one_if x_is in
    absurd (omega (arith, few, count-cons test z zs, first, one_there test zs j y y_at y_is))
one_place test (z ∷ zs) (suc i) zero x y few x_at y_at x_is y_is =
    let first : one_if (test z) ≡ 1 = ap (λ v. one_if (test v)) (same_Some z y y_at) ∙ ap one_if y_is in
    absurd (omega (arith, few, count-cons test z zs, first, one_there test zs i x x_at x_is))
one_place test (z ∷ zs) (suc i) (suc j) x y few x_at y_at x_is y_is =
    ap suc (one_place test zs i j x y (omega (arith, few, count-cons test z zs)) x_at y_at x_is y_is)

-- no two positions pass
pub count-once : {A : Type 0} (test : A → Bool) (xs : List A)
    → ((i j : ℕ) (x y : A) → slice_get xs i ≡ Some x → slice_get xs j ≡ Some y → test x ≡ true → test y ≡ true → i ≡ j) → count_by test xs ≤ 1
count-once test [] once = omega arith
count-once {A} test (x ∷ xs) once = by_test (test x) refl (λ rest. count-once test xs rest)
  where
    by_test : (b : Bool) → test x ≡ b
        → (((i j : ℕ) (y z : A) → slice_get xs i ≡ Some y → slice_get xs j ≡ Some z → test y ≡ true → test z ≡ true → i ≡ j) → count_by test xs ≤ 1)
        → count_by test (x ∷ xs) ≤ 1
    by_test true is behind =
        let none : count_by test xs ≡ 0 =
        count-none test xs (λ i y at. false_from_ne_true (test y) (λ passes.
        let same : 0 ≡ suc i = once 0 (suc i) x y refl at is passes in
        absurd (omega (arith, same)))) in
        omega (arith, count-cons test x xs, ap one_if is, none)
    by_test false is behind =
        omega (
          arith,
          count-cons test x xs,
          ap one_if is,
          behind (λ i j y z y_at z_at y_is z_is.
              let next : suc i ≡ suc j = once (suc i) (suc j) y z y_at z_at y_is z_is in
              omega (arith, next)),
        )

-- the only one that passes is the one that is found
pub found_only : {A : Type 0} (test : A → Bool) (xs : List A) (i : ℕ) (x : A) → count_by test xs ≤ 1 → slice_get xs i ≡ Some x
    → test x ≡ true
    → find test xs ≡ Some x
found_only test [] i x few at passes = absurd (none-some x at)
found_only test (y ∷ ys) zero x few at passes =
    cond-true (test y) (Some y) (find test ys) (ap test (same_Some y x at) ∙ passes) ∙ at
found_only test (y ∷ ys) (suc i) x few at passes =
    by_test (test y) refl (found_only test ys i x (omega (arith, few, count-cons test y ys)) at passes)
  where
    by_test : (b : Bool) → test y ≡ b → find test ys ≡ Some x → cond b (Some y) (find test ys) ≡ Some x
    by_test true e rest = absurd (omega (arith, few, count-cons test y ys, ap one_if e, one_there test ys i x at passes))
    by_test false e rest = rest
