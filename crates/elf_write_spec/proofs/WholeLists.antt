-- Lists: elements at positions, and the first one that passes a test.
use Rattle.std.proofs.Common.{◌≡◌, ℕ, zero, suc, ◌<◌, ◌⊎◌, Bool, true, false, cond, List, ◌∷◌, length, map, refl, sym, ap, ◌∙◌, subst, inl, inr, Option, Some, None, arith, []}
use Rattle.std.specs.Prelude.{◌==◌, IsSome, find, option_map}
use Rattle.std.specs.List.{list_all, slice_get}
use Rattle.std.proofs.lemmas.Bool.{and_from, and_parts, eqb-true, false≢true, or_cases}
use Rattle.std.proofs.lemmas.Option.{none-some, same_Some}
use Rattle.elf_format.specs.Options.{is_one_of}
use Rattle.elf_layout_plan.proofs.ForCallers.PlacedLists.{Has, has_cases, has_none}

-- ## Elements at positions

-- there is an element at each position below the length
pub there_at : {A : Type 0} (xs : List A) (i : ℕ) → i < length xs → (x : A) × (slice_get xs i ≡ Some x)
there_at [] i less = absurd (omega (arith, less))
there_at (x ∷ xs) zero less = (x, refl)
there_at (x ∷ xs) (suc i) less = there_at xs i (omega (arith, less))

-- two lists of one length that hold the same at each position are one
pub same_items : {A : Type 0} (xs ys : List A) → length xs ≡ length ys
    → ((i : ℕ) (x y : A) → slice_get xs i ≡ Some x → slice_get ys i ≡ Some y → x ≡ y) → xs ≡ ys
same_items [] [] long same = refl
same_items [] (y ∷ ys) long same = absurd (omega (arith, long))
same_items (x ∷ xs) [] long same = absurd (omega (arith, long))
same_items {A} (x ∷ xs) (y ∷ ys) long same =
    ap (λ (z : A). z ∷ xs) (same zero x y refl refl)
    ∙ ap (λ (zs : List A). y ∷ zs) (same_items xs ys (omega (arith, long)) (λ i a b. same (suc i) a b))

-- what a function leaves alone, one by one
pub map-same : {A : Type 0} (f : A → A) (xs : List A) → ((i : ℕ) (x : A) → slice_get xs i ≡ Some x → f x ≡ x) → map f xs ≡ xs
map-same f [] same = refl
map-same {A} f (x ∷ xs) same =
    ap (λ (z : A). z ∷ map f xs) (same zero x refl) ∙ ap (λ (zs : List A). x ∷ zs) (map-same f xs (λ i y. same (suc i) y))

-- a test that each element passes
pub all-each : {A : Type 0} (test : A → Bool) (xs : List A) → ((i : ℕ) (x : A) → slice_get xs i ≡ Some x → test x ≡ true)
    → list_all test xs ≡ true
all-each test [] all = refl
all-each test (x ∷ xs) all = and_from (test x) (list_all test xs) (all zero x refl) (all-each test xs (λ i y. all (suc i) y))

-- what a function gives of a value that is there
pub mapped_at : {A B : Type 0} (f : A → B) (o : Option A) (b : B) → option_map f o ≡ Some b → (x : A) × (o ≡ Some x) × (f x ≡ b)
mapped_at f None b h = absurd (none-some b h)
mapped_at f (Some x) b h = (x, refl, same_Some (f x) b h)

-- what each of some numbers passes
pub passes_one : (test : ℕ → Bool) (ns : List ℕ) (n : ℕ) → list_all test ns ≡ true → is_one_of ns n ≡ true → test n ≡ true
passes_one test [] n all one = absurd (false≢true one)
passes_one test (m ∷ ms) n all one =
    let both = and_parts (test m) (list_all test ms) all in
    elim (or_cases (m == n) (is_one_of ms n) one) [
      | inl same ↦ ap test (sym (eqb-true m n same)) ∙ both.0
      | inr later ↦ passes_one test ms n both.1 later
    ]

-- a value that is there
pub some_there : {A : Type 0} (o : Option A) → IsSome o → (x : A) × (o ≡ Some x)
some_there None h = absurd (false≢true h)
some_there (Some x) h = (x, refl)

-- ## The first that passes a test

pub record FoundAt {A : Type 0} (test : A → Bool) (xs : List A) : Type 0 where
  pub index : ℕ
  pub element : A
  pub there : slice_get xs index ≡ Some element
  pub passes : test element ≡ true
  pub is_first : find test xs ≡ Some element
  pub before : (j : ℕ) (y : A) → j < index → slice_get xs j ≡ Some y → test y ≡ false

-- no element passes
abbrev pub NonePasses : {A : Type 0} → (A → Bool) → List A → Type 0
NonePasses {A} test xs = (j : ℕ) (y : A) → slice_get xs j ≡ Some y → test y ≡ false

find-step : {A : Type 0} (test : A → Bool) (x : A) (xs : List A) (b : Bool) → test x ≡ b
    → find test (x ∷ xs) ≡ cond b (Some x) (find test xs)
find-step {A} test x xs b is = ap (λ (c : Bool). cond c (Some x) (find test xs)) is

first_or : {A : Type 0} (test : A → Bool) (x : A) (xs : List A) (b : Bool) → test x ≡ b → FoundAt test xs ⊎ NonePasses test xs
    → FoundAt test (x ∷ xs) ⊎ NonePasses test (x ∷ xs)
first_or test x xs true is more = inl (record {
  index = zero;
  element = x;
  there = refl;
  passes = is;
  is_first = find-step test x xs true is;
  before = λ j y less at. absurd (omega (arith, less));
})
first_or test x xs false is (inl found) = inl (record {
  index = suc found.index;
  element = found.element;
  there = found.there;
  passes = found.passes;
  is_first = find-step test x xs false is ∙ found.is_first;
  before = before_or;
})
  where
    before_or : (j : ℕ) (y : _) → j < suc found.index → slice_get (x ∷ xs) j ≡ Some y → test y ≡ false
    before_or zero y less at = subst (λ z. test z ≡ false) (same_Some x y at) is
    before_or (suc j) y less at = found.before j y (omega (arith, less)) at
first_or test x xs false is (inr none) = inr none_or
  where
    none_or : (j : ℕ) (y : _) → slice_get (x ∷ xs) j ≡ Some y → test y ≡ false
    none_or zero y at = subst (λ z. test z ≡ false) (same_Some x y at) is
    none_or (suc j) y at = none j y at

pub first_at : {A : Type 0} (test : A → Bool) (xs : List A) → FoundAt test xs ⊎ NonePasses test xs
first_at test [] = inr (λ j y at. absurd (none-some y at))
first_at test (x ∷ xs) = first_or test x xs (test x) refl (first_at test xs)

-- the first that passes is what is found
pub find-is : {A : Type 0} (test : A → Bool) (xs : List A) (i : ℕ) (x : A) → slice_get xs i ≡ Some x → test x ≡ true
    → ((j : ℕ) (y : A) → j < i → slice_get xs j ≡ Some y → test y ≡ false) → find test xs ≡ Some x
find-is test [] i x at passes before = absurd (none-some x at)
find-is {A} test (z ∷ xs) zero x at passes before =
    let same : z ≡ x = same_Some z x at in
    find-step test z xs true (ap test same ∙ passes) ∙ ap (λ (w : A). Some w) same
find-is test (z ∷ xs) (suc i) x at passes before =
    find-step test z xs false (before zero z (omega arith) refl)
    ∙ find-is test xs i x at passes (λ j y less there. before (suc j) y (omega (arith, less)) there)

pub find-no : {A : Type 0} (test : A → Bool) (xs : List A) → NonePasses test xs → find test xs ≡ None
find-no test [] none = refl
find-no test (x ∷ xs) none = find-step test x xs false (none zero x refl) ∙ find-no test xs (λ j y. none (suc j) y)

-- where no element is found none passes
pub none-passes : {A : Type 0} (test : A → Bool) (xs : List A) → find test xs ≡ None → NonePasses test xs
none-passes test xs none = elim (first_at test xs) [
  | inl found ↦ absurd (none-some found.element (sym none ∙ found.is_first))
  | inr never ↦ never
]

-- what stands before the first that is found, which stands at one position, doesn't pass
pub before-first : {A : Type 0} (test : A → Bool) (xs : List A) (x : A) → find test xs ≡ Some x → (i : ℕ) → slice_get xs i ≡ Some x
    → ((j : ℕ) → slice_get xs j ≡ Some x → j ≡ i) → (j : ℕ) (y : A) → j < i → slice_get xs j ≡ Some y → test y ≡ false
before-first {A} test xs x is i at only j y less y_at = elim (first_at test xs) [
  | inl found ↦
      let same : found.element ≡ x = same_Some found.element x (sym found.is_first ∙ is) in
      let here : found.index ≡ i = only found.index (found.there ∙ ap (λ (z : A). Some z) same) in
      found.before j y (omega (arith, less, here)) y_at
  | inr never ↦ never j y y_at
]

-- ## What is in a list

-- an element of a list stands at a position
pub has_at : {A : Type 0} (xs : List A) (x : A) → Has x xs → (i : ℕ) × (slice_get xs i ≡ Some x)
has_at [] x h = absurd (has_none x h)
has_at {A} (y ∷ xs) x h = elim (has_cases x y xs h) [
  | inl same ↦ (zero, ap (λ (z : A). Some z) same)
  | inr later ↦ let (i, at) = has_at xs x later in (suc i, at)
]
