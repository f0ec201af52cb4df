-- Loops that ask whether some element of a list passes a test, or some that a filter keeps.
use Rattle.std.proofs.Common.{◌≡◌, ℕ, ◌+◌, ◌<◌, ◌≤◌, List, [], ◌∷◌, Bool, true, false, Option, Some, None, Result, Ok, Err, cond, length, drop, get_or, refl, sym, ap, ◌∙◌, inl, inr, arith}
use Rattle.std.specs.Prelude.{◌&&◌, ◌||◌, ◌==◌, filter, find, if◌then◌else◌, is_ok}
use Rattle.std.specs.List.{list_any, slice_get}
use Rattle.std.specs.Result.{MatchResult}
use Rattle.std.proofs.lemmas.Bool.{cases_lt, eq-eqb, ne_eqb}
use Rattle.std.proofs.lemmas.List.{drop_all, drop_more}
use Rattle.std.proofs.lemmas.List.Elements.{All-from_get_or}
use Rattle.std.proofs.lemmas.List.Folds.{list_any_at, list_any_none}
use Rattle.std.proofs.lemmas.Option.{get_or_from_slice_get, slice_get_within}

-- the element at a place comes before those behind it
pub drop_here : {X : Type 0} (xs : List X) (i : ℕ) (x : X) → slice_get xs i ≡ Some x → drop i xs ≡ x ∷ drop (i + 1) xs
drop_here xs i x at = drop_more xs i x (slice_get_within xs i x at) ∙ ap (λ y. y ∷ drop (i + 1) xs) (get_or_from_slice_get xs i x x at)

-- ## Some element passes

module _ {X : Type 0} (test : X → Bool) where
  -- some element from a place on passes
  abbrev pub any_from : List X → ℕ → Bool
  any_from xs i = list_any test (drop i xs)

  any_here : (xs : List X) (i : ℕ) (x : X) (answer : Bool) → slice_get xs i ≡ Some x → answer ≡ test x → any_from xs i ≡ (answer || any_from xs (i + 1))
  any_here xs i x answer at is = ap (list_any test) (drop_here xs i x at) ∙ ap (λ b. b || any_from xs (i + 1)) (sym is)

  pub any_goes : (xs : List X) (i : ℕ) (x : X) (answer whole : Bool) → slice_get xs i ≡ Some x → answer ≡ test x → answer ≡ false → any_from xs i ≡ whole
      → any_from xs (i + 1) ≡ whole
  any_goes xs i x answer whole at is fails so_far = sym (ap (λ b. b || any_from xs (i + 1)) fails) ∙ sym (any_here xs i x answer at is) ∙ so_far

  pub any_ends : (xs : List X) (i : ℕ) (x : X) (answer whole : Bool) → slice_get xs i ≡ Some x → answer ≡ test x → answer ≡ true → any_from xs i ≡ whole → true ≡ whole
  any_ends xs i x answer whole at is holds so_far = sym (ap (λ b. b || any_from xs (i + 1)) holds) ∙ sym (any_here xs i x answer at is) ∙ so_far

  pub any_done : (xs : List X) (i : ℕ) (whole : Bool) → length xs ≤ i → any_from xs i ≡ whole → false ≡ whole
  any_done xs i whole past so_far = sym (ap (list_any test) (drop_all i xs past)) ∙ so_far

-- ## Some element that is kept passes

module _ {X : Type 0} (p test : X → Bool) where
  first_kept : (b : Bool) (x : X) (ys : List X) → list_any test (cond b (x ∷ ys) ys) ≡ ((b && test x) || list_any test ys)
  first_kept true x ys = refl
  first_kept false x ys = refl

  -- some kept element from a place on passes
  abbrev pub some_from : List X → ℕ → Bool
  some_from xs i = list_any test (filter p (drop i xs))

  some_here : (xs : List X) (i : ℕ) (x : X) (answer : Bool) → slice_get xs i ≡ Some x → answer ≡ (p x && test x) → some_from xs i ≡ (answer || some_from xs (i + 1))
  some_here xs i x answer at is =
      ap (λ ys. list_any test (filter p ys)) (drop_here xs i x at) ∙ first_kept (p x) x (filter p (drop (i + 1) xs)) ∙ ap (λ b. b || some_from xs (i + 1)) (sym is)

  pub some_goes : (xs : List X) (i : ℕ) (x : X) (answer whole : Bool) → slice_get xs i ≡ Some x → answer ≡ (p x && test x) → answer ≡ false → some_from xs i ≡ whole
      → some_from xs (i + 1) ≡ whole
  some_goes xs i x answer whole at is fails so_far = sym (ap (λ b. b || some_from xs (i + 1)) fails) ∙ sym (some_here xs i x answer at is) ∙ so_far

  pub some_ends : (xs : List X) (i : ℕ) (x : X) (answer whole : Bool) → slice_get xs i ≡ Some x → answer ≡ (p x && test x) → answer ≡ true → some_from xs i ≡ whole
      → true ≡ whole
  some_ends xs i x answer whole at is holds so_far = sym (ap (λ b. b || some_from xs (i + 1)) holds) ∙ sym (some_here xs i x answer at is) ∙ so_far

  pub some_done : (xs : List X) (i : ℕ) (whole : Bool) → length xs ≤ i → some_from xs i ≡ whole → false ≡ whole
  some_done xs i whole past so_far = sym (ap (λ ys. list_any test (filter p ys)) (drop_all i xs past)) ∙ so_far

-- ## The first that passes

module _ {X : Type 0} (test : X → Bool) where
  -- the first from a place on
  abbrev pub first_from : List X → ℕ → Option X
  first_from xs i = find test (drop i xs)

  first_here : (xs : List X) (i : ℕ) (x : X) (answer : Bool) → slice_get xs i ≡ Some x → answer ≡ test x → first_from xs i ≡ (if answer then Some x else first_from xs (i + 1))
  first_here xs i x answer at is = ap (find test) (drop_here xs i x at) ∙ ap (λ (b : Bool). if b then Some x else first_from xs (i + 1)) (sym is)

  pub first_goes : (xs : List X) (i : ℕ) (x : X) (answer : Bool) (whole : Option X) → slice_get xs i ≡ Some x → answer ≡ test x → answer ≡ false → first_from xs i ≡ whole
      → first_from xs (i + 1) ≡ whole
  first_goes xs i x answer whole at is fails so_far = sym (ap (λ (b : Bool). if b then Some x else first_from xs (i + 1)) fails) ∙ sym (first_here xs i x answer at is) ∙ so_far

  pub first_ends : (xs : List X) (i : ℕ) (x : X) (answer : Bool) (whole : Option X) → slice_get xs i ≡ Some x → answer ≡ test x → answer ≡ true → first_from xs i ≡ whole
      → Some x ≡ whole
  first_ends xs i x answer whole at is holds so_far = sym (ap (λ (b : Bool). if b then Some x else first_from xs (i + 1)) holds) ∙ sym (first_here xs i x answer at is) ∙ so_far

  pub first_done : (xs : List X) (i : ℕ) (whole : Option X) → length xs ≤ i → first_from xs i ≡ whole → None ≡ whole
  first_done xs i whole past so_far = sym (ap (find test) (drop_all i xs past)) ∙ so_far

-- ## Numbers

-- what a search in rising numbers finds
pub found_number : (xs : List ℕ) (x : ℕ) (r : Result ℕ ℕ)
    → MatchResult r (λ i. (i < length xs) × (get_or xs i 0 ≡ x)) (λ i. (i ≤ length xs) × ((k : ℕ) → k < i → get_or xs k 0 < x) × ((k : ℕ) → i ≤ k → k < length xs → x < get_or xs k 0))
    → is_ok r ≡ list_any (λ y. y == x) xs
found_number xs x (Ok i) at = sym (list_any_at (λ y. y == x) xs i 0 at.0 (eq-eqb (get_or xs i 0) x at.1))
found_number xs x (Err i) none = sym (list_any_none (λ y. y == x) xs (All-from_get_or (λ y. (y == x) ≡ false) xs 0 (λ k within. elim (cases_lt k i) [
  | inl before ↦ ne_eqb (get_or xs k 0) x (λ e. omega (arith, none.1 k before))
  | inr behind ↦ ne_eqb (get_or xs k 0) x (λ e. omega (arith, none.2 k behind within))
])))

-- all elements are left, where no number goes
pub filter_all : {X : Type 0} (xs : List X) → filter (λ _. true) xs ≡ xs
filter_all [] = refl
filter_all (x ∷ xs) = ap (λ ys. x ∷ ys) (filter_all xs)
