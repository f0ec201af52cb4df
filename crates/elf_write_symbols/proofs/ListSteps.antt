-- Lists: the first element that passes a test and its place, loops that ask whether all pass, and elements in an order.
use Rattle.std.proofs.Common.{◌≡◌, ℕ, zero, suc, ◌+◌, ◌<◌, ◌≤◌, List, [], ◌∷◌, ◌++◌, length, drop, take, get_or, Bool, true, false, not, refl, sym, ap, ◌∙◌, subst, inl, inr, Option, Some, None, Result, Ok, Err, arith}
use Rattle.std.specs.Prelude.{◌&&◌, count_by, find, if◌then◌else◌, nat_lt, position, slice_index, sum_by}
use Rattle.std.specs.List.{All, cons_option, list_all, position_or_len, slice_get}
use Rattle.std.specs.List.Sorted.{IsPermutation}
use Rattle.std.specs.Option.{option_map}
use Rattle.std.specs.Result.{MatchResult}
use Rattle.std.proofs.lemmas.Bool.{cases_lt, le-ltb, lt-ltb}
use Rattle.std.proofs.lemmas.List.{drop_all, drop_more}
use Rattle.std.proofs.lemmas.List.Sorted.{sum_by-IsPermutation}
use Rattle.std.proofs.lemmas.List.Sums.{sum_by-cons}
use Rattle.std.proofs.lemmas.Option.{get_or_from_slice_get, none-some, slice_get_within}
use Rattle.elf_format.specs.Image.{ImageSection, counted}
use Rattle.elf_format.specs.Views.{NamedSymbol}
use Rattle.elf_hashes.specs.Found.{in_order}
use Rattle.elf_hashes.proofs.ForCallers.{in_order-counted}
use Rattle.elf_image.specs.Kept.{KeptSection, kept_from}
use Rattle.elf_write_spec.proofs.ForCallers.LinkedLists.{count-cons, one_if}

-- ## The place of the first that passes a test

-- the place in a list that goes on
place_on : (b : Bool) (k n : ℕ)
    → (if nat_lt (if not b then 1 + k else 0) (suc n) then Some (if not b then 1 + k else 0) else None) ≡ (if b then Some 0 else option_map (λ i. suc i) (if nat_lt k n then Some k else None))
place_on true k n = ap (λ (t : Bool). if t then Some 0 else None) (lt-ltb 0 (suc n) (omega arith))
place_on false k n =
    let next : 1 + k ≡ suc k = omega arith in
    elim (cases_lt k n) [
      | inl less ↦
          ap (λ (t : Bool). if t then Some (1 + k) else None) (lt-ltb (1 + k) (suc n) (omega arith)) ∙ ap (λ i. Some i) next
          ∙ sym (ap (λ (t : Bool). option_map (λ i. suc i) (if t then Some k else None)) (lt-ltb k n less))
      | inr past ↦
          ap (λ (t : Bool). if t then Some (1 + k) else None) (le-ltb (1 + k) (suc n) (omega arith))
          ∙ sym (ap (λ (t : Bool). option_map (λ i. suc i) (if t then Some k else None)) (le-ltb k n past))
    ]

position-cons : {A : Type 0} (test : A → Bool) (x : A) (xs : List A)
    → position test (x ∷ xs) ≡ (if test x then Some 0 else option_map (λ i. suc i) (position test xs))
position-cons test x xs = place_on (test x) (position_or_len test xs) (length xs)

-- ## Sections with their numbers

-- a search by the section alone comes to the same section
section_by : (b : Bool) (k : KeptSection) (rest : Option KeptSection) (other : Option ImageSection) → option_map (λ s. s.section) rest ≡ other
    → option_map (λ s. s.section) (if b then Some k else rest) ≡ (if b then Some k.section else other)
section_by true k rest other same = refl
section_by false k rest other same = same

pub section-kept : (test : ImageSection → Bool) (at : ℕ) (numbers : List ℕ) (sections : List ImageSection) → length numbers ≡ length sections
    → option_map (λ s. s.section) (find (λ s. test s.section) (kept_from at numbers sections)) ≡ find test sections
section-kept test at [] [] same = refl
section-kept test at [] (s ∷ ss) same = absurd (omega (arith, same))
section-kept test at (n ∷ ns) [] same = absurd (omega (arith, same))
section-kept test at (n ∷ ns) (s ∷ ss) same =
    section_by (test s) (record { position = at; number = n; section = s }) (find (λ k. test k.section) (kept_from (at + 1) ns ss)) (find test ss)
    (section-kept test (at + 1) ns ss (omega (arith, same)))

number_by : (b : Bool) (k : KeptSection) (rest : Option KeptSection) (ns : List ℕ) (other : Option ℕ)
    → option_map (λ s. s.number) rest ≡ option_map (slice_index ns) other
    → option_map (λ s. s.number) (if b then Some k else rest)
    ≡ option_map (slice_index (k.number ∷ ns)) (if b then Some 0 else option_map (λ i. suc i) other)
number_by true k rest ns other same = refl
number_by false k rest ns None same = same
number_by false k rest ns (Some i) same = same

-- the number of the first that passes a test is the one at its place
pub number-kept : (test : ImageSection → Bool) (at : ℕ) (numbers : List ℕ) (sections : List ImageSection) → length numbers ≡ length sections
    → option_map (λ s. s.number) (find (λ s. test s.section) (kept_from at numbers sections))
    ≡ option_map (slice_index numbers) (position test sections)
number-kept test at [] [] same = refl
number-kept test at [] (s ∷ ss) same = absurd (omega (arith, same))
number-kept test at (n ∷ ns) [] same = absurd (omega (arith, same))
number-kept test at (n ∷ ns) (s ∷ ss) same =
    number_by (test s) (record { position = at; number = n; section = s }) (find (λ k. test k.section) (kept_from (at + 1) ns ss)) ns
    (position test ss) (number-kept test (at + 1) ns ss (omega (arith, same)))
    ∙ ap (option_map (slice_index (n ∷ ns))) (sym (position-cons test s ss))

-- ## Loops that ask whether all pass a test

drop_here : {A : Type 0} (xs : List A) (i : ℕ) (x : A) → slice_get xs i ≡ Some x → drop i xs ≡ x ∷ drop (i + 1) xs
drop_here xs i x at = drop_more xs i x (slice_get_within xs i x at) ∙ ap (λ y. y ∷ drop (i + 1) xs) (get_or_from_slice_get xs i x x at)

module _ {A : Type 0} (test : A → Bool) where
  -- the elements from a place on pass the test
  abbrev pub all_from : List A → ℕ → Bool
  all_from xs i = list_all test (drop i xs)

  all_here : (xs : List A) (i : ℕ) (x : A) (answer : Bool) → slice_get xs i ≡ Some x → answer ≡ test x → all_from xs i ≡ (answer && all_from xs (i + 1))
  all_here xs i x answer at is = ap (list_all test) (drop_here xs i x at) ∙ ap (λ b. b && all_from xs (i + 1)) (sym is)

  pub all_goes : (xs : List A) (i : ℕ) (x : A) (answer whole : Bool) → slice_get xs i ≡ Some x → answer ≡ test x → answer ≡ true → all_from xs i ≡ whole
      → all_from xs (i + 1) ≡ whole
  all_goes xs i x answer whole at is holds so_far = sym (ap (λ b. b && all_from xs (i + 1)) holds) ∙ sym (all_here xs i x answer at is) ∙ so_far

  pub all_ends : (xs : List A) (i : ℕ) (x : A) (answer whole : Bool) → slice_get xs i ≡ Some x → answer ≡ test x → answer ≡ false → all_from xs i ≡ whole
      → false ≡ whole
  all_ends xs i x answer whole at is fails so_far = sym (ap (λ b. b && all_from xs (i + 1)) fails) ∙ sym (all_here xs i x answer at is) ∙ so_far

  pub all_done : (xs : List A) (i : ℕ) (whole : Bool) → length xs ≤ i → all_from xs i ≡ whole → true ≡ whole
  all_done xs i whole past so_far = sym (ap (list_all test) (drop_all i xs past)) ∙ so_far

-- ## How many in an order pass a test

-- one where the symbol at a position passes
abbrev one_at : (NamedSymbol → Bool) → List NamedSymbol → ℕ → ℕ
one_at test ys i = elim (slice_get ys i) as (λ _. ℕ) [ Some y ↦ one_if (test y) | None ↦ 0 ]

count-in_order : (test : NamedSymbol → Bool) (ys : List NamedSymbol) (order : List ℕ) → count_by test (in_order ys order) ≡ sum_by (one_at test ys) order
count-in_order test ys [] = refl
count-in_order test ys (k ∷ order) =
    by_symbol (slice_get ys k) ∙ ap (λ n. one_at test ys k + n) (count-in_order test ys order) ∙ sym (sum_by-cons (one_at test ys) k order)
  where
    by_symbol : (o : Option NamedSymbol)
        → count_by test (cons_option o (in_order ys order)) ≡ (elim o as (λ _. ℕ) [ Some y ↦ one_if (test y) | None ↦ 0 ]) + count_by test (in_order ys order)
    by_symbol None = omega arith
    by_symbol (Some y) = count-cons test y (in_order ys order)

-- as many symbols pass a test as in another order
pub count-permuted : (test : NamedSymbol → Bool) (ys : List NamedSymbol) (order : List ℕ) → IsPermutation (counted (length ys)) order
    → count_by test (in_order ys order) ≡ count_by test ys
count-permuted test ys order once =
    count-in_order test ys order ∙ sum_by-IsPermutation (one_at test ys) (counted (length ys)) order once
    ∙ sym (count-in_order test ys (counted (length ys))) ∙ ap (count_by test) (in_order-counted ys)

-- as many symbols behind the first pass a test as in another order, where the first stays
pub count-behind : (test : NamedSymbol → Bool) (first : NamedSymbol) (rest : List NamedSymbol) (order : List ℕ)
    → IsPermutation (counted (length (first ∷ rest))) (0 ∷ order) → count_by test (in_order (first ∷ rest) order) ≡ count_by test rest
count-behind test first rest order once =
    omega (
      arith,
      count-permuted test (first ∷ rest) (0 ∷ order) once,
      count-cons test first (in_order (first ∷ rest) order),
      count-cons test first rest,
    )

-- ## Answers

-- what holds of a value or of an error, where more holds of each
pub match_more : {A E : Type 0} (r : Result A E) (P More : A → Type 0) (Q Worse : E → Type 0) → ((x : A) → P x → More x) → ((e : E) → Q e → Worse e)
    → MatchResult r P Q → MatchResult r More Worse
match_more (Ok x) P More Q Worse of_value of_error is = of_value x is
match_more (Err e) P More Q Worse of_value of_error is = of_error e is
