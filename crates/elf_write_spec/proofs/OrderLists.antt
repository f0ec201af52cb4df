-- Orders: lists in which each number below another stands once, and symbols in an order.
use Rattle.std.proofs.Common.{◌≡◌, ℕ, zero, suc, ◌+◌, ◌<◌, List, [], ◌∷◌, length, get_or, Bool, true, false, not, cond, eqb, refl, sym, ap, ◌∙◌, subst, inl, inr, Option, Some, None, arith}
use Rattle.std.specs.Prelude.{All, nat_lt, position}
use Rattle.std.specs.List.{Contains, IsDistinct, cons_option, position_or_len, slice_get}
use Rattle.std.specs.List.Sorted.{IsPermutation}
use Rattle.std.proofs.lemmas.Bool.{cases_order, eq-eqb, false≢true, le-ltb, lt-ltb, ne_eqb}
use Rattle.std.proofs.lemmas.List.Elements.{All-head, All-tail}
use Rattle.std.proofs.lemmas.List.Sorted.{All-permutation, Contains-permutation, length_permutation}
use Rattle.std.proofs.lemmas.Map.Keys.{IsDistinct-IsPermutation, IsDistinct-from_apart, apart_from_distinct}
use Rattle.std.proofs.lemmas.Option.{get_or_from_slice_get, none-some, same_Some, slice_get-get_or, slice_get_within}
use Rattle.elf_format.specs.Image.{counted}
use Rattle.elf_format.specs.Views.{NamedSymbol}
use Rattle.elf_format.proofs.ForCallers.Lengths.{length-counted, slice_get-counted}
use Rattle.elf_hashes.specs.Found.{ArePlaces, in_order}
use Rattle.elf_write_spec.proofs.WholeLists.{there_at}

-- ## The first that passes a test, by its position

len-at : {A : Type 0} (test : A → Bool) (xs : List A) (i : ℕ) (x : A) → slice_get xs i ≡ Some x → test x ≡ true
    → ((j : ℕ) (y : A) → j < i → slice_get xs j ≡ Some y → test y ≡ false) → position_or_len test xs ≡ i
len-at test [] i x at passes before = absurd (none-some x at)
len-at test (y ∷ xs) zero x at passes before =
    ap (λ (b : Bool). cond (not b) (1 + position_or_len test xs) 0) (ap test (same_Some y x at) ∙ passes)
len-at test (y ∷ xs) (suc i) x at passes before =
    let more : position_or_len test xs ≡ i = len-at test xs i x at passes (λ j z less there. before (suc j) z (omega (arith, less)) there) in
    let next : 1 + position_or_len test xs ≡ suc i = omega (arith, more) in
    ap (λ (b : Bool). cond (not b) (1 + position_or_len test xs) 0) (before zero y (omega arith) refl) ∙ next

len-none : {A : Type 0} (test : A → Bool) (xs : List A) → ((j : ℕ) (y : A) → slice_get xs j ≡ Some y → test y ≡ false)
    → position_or_len test xs ≡ length xs
len-none test [] none = refl
len-none test (y ∷ xs) none =
    let more : position_or_len test xs ≡ length xs = len-none test xs (λ j z there. none (suc j) z there) in
    let next : 1 + position_or_len test xs ≡ suc (length xs) = omega (arith, more) in
    ap (λ (b : Bool). cond (not b) (1 + position_or_len test xs) 0) (none zero y refl) ∙ next

pub position-at : {A : Type 0} (test : A → Bool) (xs : List A) (i : ℕ) (x : A) → slice_get xs i ≡ Some x → test x ≡ true
    → ((j : ℕ) (y : A) → j < i → slice_get xs j ≡ Some y → test y ≡ false) → position test xs ≡ Some i
position-at test xs i x at passes before =
    ap (λ (n : ℕ). cond (nat_lt n (length xs)) (Some n) None) (len-at test xs i x at passes before)
    ∙ ap (λ (b : Bool). cond b (Some i) None) (lt-ltb i (length xs) (slice_get_within xs i x at))

pub position-none : {A : Type 0} (test : A → Bool) (xs : List A) → ((j : ℕ) (y : A) → slice_get xs j ≡ Some y → test y ≡ false)
    → position test xs ≡ None
position-none test xs none =
    ap (λ (n : ℕ). cond (nat_lt n (length xs)) (Some n) None) (len-none test xs none)
    ∙ ap (λ (b : Bool). cond b (Some (length xs)) None) (le-ltb (length xs) (length xs) (omega arith))

-- ## Each number below another once

flips : (x y : ℕ) → eqb x y ≡ eqb y x
flips x y = grind arith

-- the numbers below a number stand each at its own position
get_or-counted : (n i d : ℕ) → i < length (counted n) → get_or (counted n) i d ≡ i
get_or-counted n i d inside = get_or_from_slice_get (counted n) i i d (slice_get-counted n i (omega (arith, inside, length-counted n)))

counted-apart : (n i j d : ℕ) → i < j → j < length (counted n) → eqb (get_or (counted n) i d) (get_or (counted n) j d) ≡ false
counted-apart n i j d less inside =
    let at_i : get_or (counted n) i d ≡ i = get_or-counted n i d (omega (arith, less, inside)) in
    let at_j : get_or (counted n) j d ≡ j = get_or-counted n j d inside in
    ne_eqb (get_or (counted n) i d) (get_or (counted n) j d) (λ e. let same : i ≡ j = sym at_i ∙ e ∙ at_j in omega (arith, same, less))

module _ (n : ℕ) (order : List ℕ) (once : IsPermutation (counted n) order) where
  pub as_many : length order ≡ n
  as_many = length_permutation (counted n) order once ∙ length-counted n

  pub all_below : All (λ k. k < n) order
  all_below =
      let Below : ℕ → Type 0 = λ k. k < n in
      let all : All Below (counted n) = λ k d there. subst Below (sym (get_or-counted n k d there)) (omega (arith, there, length-counted n)) in
      All-permutation Below (counted n) order once all

  pub is_below : (i k : ℕ) → slice_get order i ≡ Some k → k < n
  is_below i k at =
      let Below : ℕ → Type 0 = λ k. k < n in
      subst Below (get_or_from_slice_get order i k 0 at) (all_below i 0 (slice_get_within order i k at))

  -- each number stands somewhere
  pub stands : (k : ℕ) → k < n → (i : ℕ) × (slice_get order i ≡ Some k)
  stands k below =
      let there : k < length (counted n) = omega (arith, below, length-counted n) in
      let found : Contains order k = Contains-permutation (counted n) order k once (k, there, get_or-counted n k k there) in
      (found.0, slice_get-get_or order found.0 k found.1 ∙ ap (λ (m : ℕ). Some m) found.2)

  apart : (i j k : ℕ) → i < j → slice_get order i ≡ Some k → slice_get order j ≡ Some k → ⊥
  apart i j k less at_i at_j =
      let distinct : IsDistinct eqb order =
      IsDistinct-IsPermutation eqb flips (counted n) order once (IsDistinct-from_apart eqb (counted n) (counted-apart n)) in
      let same : get_or order i 0 ≡ get_or order j 0 = get_or_from_slice_get order i k 0 at_i ∙ sym (get_or_from_slice_get order j k 0 at_j) in
      false≢true (sym (apart_from_distinct eqb order i j 0 distinct less (slice_get_within order j k at_j))
      ∙ eq-eqb (get_or order i 0) (get_or order j 0) same)

  -- each number stands nowhere else
  pub one_place : (i j k : ℕ) → slice_get order i ≡ Some k → slice_get order j ≡ Some k → i ≡ j
  one_place i j k at_i at_j = elim (cases_order i j) [
    | inl same ↦ same
    | inr other ↦ elim other [
      | inl less ↦ absurd (apart i j k less at_i at_j)
      | inr more ↦ absurd (apart j i k more at_j at_i)
    ]
  ]

-- ## Symbols in an order

-- the symbol at a position of the order, and those behind it
one_more : (ys : List NamedSymbol) (k : ℕ) (order : List ℕ) (y : NamedSymbol) → slice_get ys k ≡ Some y
    → in_order ys (k ∷ order) ≡ y ∷ in_order ys order
one_more ys k order y at = ap (λ (o : Option NamedSymbol). cons_option o (in_order ys order)) at

pub length-in_order : (ys : List NamedSymbol) (order : List ℕ) → ArePlaces ys order → length (in_order ys order) ≡ length order
length-in_order ys [] places = refl
length-in_order ys (k ∷ order) places =
    let Place : ℕ → Type 0 = λ i. i < length ys in
    let (y, at) = there_at ys k (All-head Place k order places) in
    ap length (one_more ys k order y at) ∙ ap suc (length-in_order ys order (All-tail Place k order places))

pub in_order-at : (ys : List NamedSymbol) (order : List ℕ) → ArePlaces ys order → (i n : ℕ) → slice_get order i ≡ Some n
    → slice_get (in_order ys order) i ≡ slice_get ys n
in_order-at ys [] places i n at = absurd (none-some n at)
in_order-at ys (k ∷ order) places zero n at =
    let Place : ℕ → Type 0 = λ i. i < length ys in
    let (y, there) = there_at ys k (All-head Place k order places) in
    ap (λ (l : List NamedSymbol). slice_get l 0) (one_more ys k order y there) ∙ sym there ∙ ap (slice_get ys) (same_Some k n at)
in_order-at ys (k ∷ order) places (suc i) n at =
    let Place : ℕ → Type 0 = λ i. i < length ys in
    let (y, there) = there_at ys k (All-head Place k order places) in
    ap (λ (l : List NamedSymbol). slice_get l (suc i)) (one_more ys k order y there)
    ∙ in_order-at ys order (All-tail Place k order places) i n at
