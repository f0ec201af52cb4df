-- Lists: what is in them, and what holds of any two of their elements.
use Rattle.std.proofs.Common.{◌≡◌, ◌≤◌, ℕ, zero, suc, Bool, true, false, cond, ◌⊎◌, List, [], ◌∷◌, ◌++◌, map, refl, sym, ap, ◌∙◌, subst, inl, inr, Option, Some, None, arith}
use Rattle.std.specs.Prelude.{filter, find, fold, max}
use Rattle.std.specs.List.{cons_option, filter_map, flat_map, list_all, list_any, slice_get}
use Rattle.std.proofs.lemmas.Bool.{and_from, and_parts, both_ways, false≢true, or_cases, or_left, or_right}
use Rattle.std.proofs.lemmas.Option.{none-some, same_Some}

-- ## What is in a list

unfoldable pub Has : {A : Type 0} → A → List A → Type 0
Has x [] = ⊥
Has x (y ∷ ys) = (y ≡ x) ⊎ Has x ys

pub has_none : {A : Type 0} (x : A) → Has x [] → ⊥
unfolding Has
has_none x h = h

pub has_here : {A : Type 0} (x : A) (xs : List A) → Has x (x ∷ xs)
unfolding Has
has_here x xs = inl refl

pub has_same : {A : Type 0} (x y : A) (ys : List A) → y ≡ x → Has x (y ∷ ys)
unfolding Has
has_same x y ys same = inl same

pub has_there : {A : Type 0} (x y : A) (xs : List A) → Has x xs → Has x (y ∷ xs)
unfolding Has
has_there x y xs h = inr h

pub has_cases : {A : Type 0} (x y : A) (ys : List A) → Has x (y ∷ ys) → (y ≡ x) ⊎ Has x ys
unfolding Has
has_cases x y ys h = h

-- every element passes a test
pub all-at : {A : Type 0} (test : A → Bool) (xs : List A) (x : A) → list_all test xs ≡ true → Has x xs → test x ≡ true
unfolding Has
all-at test [] x all h = absurd h
all-at {A} test (y ∷ ys) x all (inl same) = subst (λ (z : A). test z ≡ true) same (and_parts (test y) (list_all test ys) all).0
all-at test (y ∷ ys) x all (inr h) = all-at test ys x (and_parts (test y) (list_all test ys) all).1 h

pub all-from : {A : Type 0} (test : A → Bool) (xs : List A) → ((x : A) → Has x xs → test x ≡ true) → list_all test xs ≡ true
all-from test [] each = refl
all-from test (x ∷ xs) each =
    and_from (test x) (list_all test xs) (each x (has_here x xs)) (all-from test xs (λ y h. each y (has_there y x xs h)))

-- some element passes a test
pub any-from : {A : Type 0} (test : A → Bool) (xs : List A) (x : A) → Has x xs → test x ≡ true → list_any test xs ≡ true
unfolding Has
any-from test [] x h passes = absurd h
any-from {A} test (y ∷ ys) x (inl same) passes = or_left (test y) (list_any test ys) (subst (λ (z : A). test z ≡ true) (sym same) passes)
any-from test (y ∷ ys) x (inr h) passes = or_right (test y) (list_any test ys) (any-from test ys x h passes)

pub record Passing {A : Type 0} (test : A → Bool) (xs : List A) : Type 0 where
  pub element : A
  pub here : Has element xs
  pub passes : test element ≡ true

pub any-at : {A : Type 0} (test : A → Bool) (xs : List A) → list_any test xs ≡ true → Passing test xs
any-at test [] any = absurd (false≢true any)
any-at test (x ∷ xs) any = elim (or_cases (test x) (list_any test xs) any) [
  | inl passes ↦ record { element = x; here = has_here x xs; passes = passes }
  | inr later ↦ let more = any-at test xs later in record
      { element = more.element; here = has_there more.element x xs more.here; passes = more.passes }
]

-- ## Lists made of lists

-- what a filter keeps
filter-step : {A : Type 0} (p : A → Bool) (y : A) (kept : List A) (x : A) (b : Bool) → p y ≡ b → Has x (cond b (y ∷ kept) kept)
    → ((y ≡ x) × (p y ≡ true)) ⊎ Has x kept
filter-step p y kept x true is h = elim (has_cases x y kept h) [ inl same ↦ inl (same, is) | inr later ↦ inr later ]
filter-step p y kept x false is h = inr h

pub filter-at : {A : Type 0} (p : A → Bool) (xs : List A) (x : A) → Has x (filter p xs) → Has x xs × (p x ≡ true)
filter-at p [] x h = absurd (has_none x h)
filter-at {A} p (y ∷ ys) x h = elim (filter-step p y (filter p ys) x (p y) refl h) [
  | inl found ↦ (subst (λ (z : A). Has z (y ∷ ys)) found.0 (has_here y ys), subst (λ (z : A). p z ≡ true) found.0 found.1)
  | inr later ↦ let more = filter-at p ys x later in (has_there x y ys more.0, more.1)
]

in_kept : {A : Type 0} (p : A → Bool) (y : A) (kept : List A) (x : A) (b : Bool) → p y ≡ b → p x ≡ true → (y ≡ x) ⊎ Has x kept
    → Has x (cond b (y ∷ kept) kept)
in_kept {A} p y kept x true is passes (inl same) = subst (λ (z : A). Has z (y ∷ kept)) same (has_here y kept)
in_kept p y kept x true is passes (inr h) = has_there x y kept h
in_kept {A} p y kept x false is passes (inl same) = absurd (both_ways (p x) (subst (λ (z : A). p z ≡ false) same is) passes)
in_kept p y kept x false is passes (inr h) = h

pub filter-from : {A : Type 0} (p : A → Bool) (xs : List A) (x : A) → Has x xs → p x ≡ true → Has x (filter p xs)
filter-from p [] x h passes = absurd (has_none x h)
filter-from p (y ∷ ys) x h passes = elim (has_cases x y ys h) [
  | inl same ↦ in_kept p y (filter p ys) x (p y) refl passes (inl same)
  | inr later ↦ in_kept p y (filter p ys) x (p y) refl passes (inr (filter-from p ys x later passes))
]

-- what a map makes
pub record MadeOf {A B : Type 0} (f : A → B) (xs : List A) (y : B) : Type 0 where
  pub source : A
  pub here : Has source xs
  pub made : f source ≡ y

pub map-at : {A B : Type 0} (f : A → B) (xs : List A) (y : B) → Has y (map f xs) → MadeOf f xs y
map-at f [] y h = absurd (has_none y h)
map-at f (x ∷ xs) y h = elim (has_cases y (f x) (map f xs) h) [
  | inl same ↦ record { source = x; here = has_here x xs; made = same }
  | inr later ↦ let more = map-at f xs y later in record { source = more.source; here = has_there more.source x xs more.here; made = more.made }
]

pub map-from : {A B : Type 0} (f : A → B) (xs : List A) (x : A) → Has x xs → Has (f x) (map f xs)
map-from f [] x h = absurd (has_none x h)
map-from {A} {B} f (y ∷ ys) x h = elim (has_cases x y ys h) [
  | inl same ↦ subst (λ (z : B). Has z (f y ∷ map f ys)) (ap f same) (has_here (f y) (map f ys))
  | inr later ↦ has_there (f x) (f y) (map f ys) (map-from f ys x later)
]

-- one list behind another
pub append-at : {A : Type 0} (xs ys : List A) (z : A) → Has z (xs ++ ys) → Has z xs ⊎ Has z ys
append-at [] ys z h = inr h
append-at (x ∷ xs) ys z h = elim (has_cases z x (xs ++ ys) h) [
  | inl same ↦ inl (has_same z x xs same)
  | inr later ↦ elim (append-at xs ys z later) [ inl l ↦ inl (has_there z x xs l) | inr r ↦ inr r ]
]

pub append-left : {A : Type 0} (xs ys : List A) (z : A) → Has z xs → Has z (xs ++ ys)
append-left [] ys z h = absurd (has_none z h)
append-left {A} (x ∷ xs) ys z h = elim (has_cases z x xs h) [
  | inl same ↦ subst (λ (w : A). Has w (x ∷ (xs ++ ys))) same (has_here x (xs ++ ys))
  | inr later ↦ has_there z x (xs ++ ys) (append-left xs ys z later)
]

pub append-right : {A : Type 0} (xs ys : List A) (z : A) → Has z ys → Has z (xs ++ ys)
append-right [] ys z h = h
append-right (x ∷ xs) ys z h = has_there z x (xs ++ ys) (append-right xs ys z h)

-- the lists of a list's elements, joined
pub record FoundIn {A B : Type 0} (f : A → List B) (xs : List A) (y : B) : Type 0 where
  pub source : A
  pub here : Has source xs
  pub among : Has y (f source)

pub flat_map-at : {A B : Type 0} (f : A → List B) (xs : List A) (y : B) → Has y (flat_map f xs) → FoundIn f xs y
flat_map-at f [] y h = absurd (has_none y h)
flat_map-at f (x ∷ xs) y h = elim (append-at (f x) (flat_map f xs) y h) [
  | inl here ↦ record { source = x; here = has_here x xs; among = here }
  | inr later ↦ let more = flat_map-at f xs y later in record
      { source = more.source; here = has_there more.source x xs more.here; among = more.among }
]

pub flat_map-from : {A B : Type 0} (f : A → List B) (xs : List A) (x : A) (y : B) → Has x xs → Has y (f x) → Has y (flat_map f xs)
flat_map-from f [] x y h among = absurd (has_none x h)
flat_map-from {A} f (z ∷ zs) x y h among = elim (has_cases x z zs h) [
  | inl same ↦ append-left (f z) (flat_map f zs) y (subst (λ (w : A). Has y (f w)) (sym same) among)
  | inr later ↦ append-right (f z) (flat_map f zs) y (flat_map-from f zs x y later among)
]

-- what is there of a list's elements
pub record GivenBy {A B : Type 0} (f : A → Option B) (xs : List A) (y : B) : Type 0 where
  pub source : A
  pub here : Has source xs
  pub given : f source ≡ Some y

given-step : {A B : Type 0} (f : A → Option B) (x : A) (ys : List B) (y : B) (o : Option B) → f x ≡ o → Has y (cons_option o ys)
    → (f x ≡ Some y) ⊎ Has y ys
given-step f x ys y None is h = inr h
given-step {A} {B} f x ys y (Some z) is h = elim (has_cases y z ys h) [
  | inl same ↦ inl (is ∙ ap (λ (w : B). Some w) same)
  | inr later ↦ inr later
]

pub filter_map-at : {A B : Type 0} (f : A → Option B) (xs : List A) (y : B) → Has y (filter_map f xs) → GivenBy f xs y
filter_map-at f [] y h = absurd (has_none y h)
filter_map-at f (x ∷ xs) y h = elim (given-step f x (filter_map f xs) y (f x) refl h) [
  | inl here ↦ record { source = x; here = has_here x xs; given = here }
  | inr later ↦ let more = filter_map-at f xs y later in record
      { source = more.source; here = has_there more.source x xs more.here; given = more.given }
]

in_given : {B : Type 0} (o : Option B) (ys : List B) (y : B) → (o ≡ Some y) ⊎ Has y ys → Has y (cons_option o ys)
in_given None ys y (inl is) = absurd (none-some y is)
in_given None ys y (inr h) = h
in_given {B} (Some z) ys y (inl is) = subst (λ (w : B). Has w (z ∷ ys)) (same_Some z y is) (has_here z ys)
in_given (Some z) ys y (inr h) = has_there y z ys h

pub filter_map-from : {A B : Type 0} (f : A → Option B) (xs : List A) (x : A) (y : B) → Has x xs → f x ≡ Some y → Has y (filter_map f xs)
filter_map-from f [] x y h is = absurd (has_none x h)
filter_map-from {A} {B} f (z ∷ zs) x y h is = elim (has_cases x z zs h) [
  | inl same ↦ in_given (f z) (filter_map f zs) y (inl (ap f same ∙ is))
  | inr later ↦ in_given (f z) (filter_map f zs) y (inr (filter_map-from f zs x y later is))
]

-- the first that passes
find-step : {A : Type 0} (test : A → Bool) (y : A) (found : Option A) (x : A) (b : Bool) → test y ≡ b → cond b (Some y) found ≡ Some x
    → ((y ≡ x) × (test x ≡ true)) ⊎ (found ≡ Some x)
find-step {A} test y found x true is h = let same : y ≡ x = same_Some y x h in inl (same, subst (λ (z : A). test z ≡ true) same is)
find-step test y found x false is h = inr h

pub find-at : {A : Type 0} (test : A → Bool) (xs : List A) (x : A) → find test xs ≡ Some x → Has x xs × (test x ≡ true)
find-at test [] x h = absurd (none-some x h)
find-at {A} test (y ∷ ys) x h = elim (find-step test y (find test ys) x (test y) refl h) [
  | inl here ↦ (subst (λ (z : A). Has z (y ∷ ys)) here.0 (has_here y ys), here.1)
  | inr later ↦ let more = find-at test ys x later in (has_there x y ys more.0, more.1)
]

-- where an element passes, one is found
find-none-step : {A : Type 0} (y : A) (found : Option A) (b : Bool) → cond b (Some y) found ≡ None → (b ≡ false) × (found ≡ None)
find-none-step y found true h = absurd (none-some y (sym h))
find-none-step y found false h = (refl, h)

pub find-none : {A : Type 0} (test : A → Bool) (xs : List A) → find test xs ≡ None → (x : A) → Has x xs → test x ≡ false
find-none test [] h x here = absurd (has_none x here)
find-none {A} test (y ∷ ys) h x here =
    let parts = find-none-step y (find test ys) (test y) h in
    elim (has_cases x y ys here) [
      | inl same ↦ subst (λ (z : A). test z ≡ false) same parts.0
      | inr later ↦ find-none test ys parts.1 x later
    ]

-- an element at a position
pub slice_get-at : {A : Type 0} (xs : List A) (i : ℕ) (x : A) → slice_get xs i ≡ Some x → Has x xs
slice_get-at [] i x h = absurd (none-some x h)
slice_get-at {A} (y ∷ ys) zero x h = subst (λ (z : A). Has z (y ∷ ys)) (same_Some y x h) (has_here y ys)
slice_get-at (y ∷ ys) (suc i) x h = has_there x y ys (slice_get-at ys i x h)

-- ## The greatest

pub greatest-first : (n : ℕ) (ns : List ℕ) → n ≤ fold max n ns
greatest-first n [] = omega arith
greatest-first n (m ∷ ms) = omega (arith, greatest-first (max n m) ms)

pub greatest-at : (n : ℕ) (ns : List ℕ) (m : ℕ) → Has m ns → m ≤ fold max n ns
greatest-at n [] m h = absurd (has_none m h)
greatest-at n (k ∷ ks) m h = elim (has_cases m k ks h) [
  | inl same ↦ omega (arith, same, greatest-first (max n k) ks)
  | inr later ↦ greatest-at (max n k) ks m later
]

-- ## Any two

-- what holds of each element and each one behind it
unfoldable pub Pairs : {A : Type 0} → (A → A → Type 0) → List A → Type 0
Pairs R [] = Unit {0}
Pairs {A} R (x ∷ xs) = ((y : A) → Has y xs → R x y) × Pairs R xs

pub pairs-none : {A : Type 0} (R : A → A → Type 0) → Pairs R []
unfolding Pairs
pairs-none R = tt

pub pairs-more : {A : Type 0} (R : A → A → Type 0) (x : A) (xs : List A) → ((y : A) → Has y xs → R x y) → Pairs R xs → Pairs R (x ∷ xs)
unfolding Pairs
pairs-more R x xs first rest = (first, rest)

pub pairs-first : {A : Type 0} (R : A → A → Type 0) (x : A) (xs : List A) → Pairs R (x ∷ xs) → (y : A) → Has y xs → R x y
unfolding Pairs
pairs-first R x xs h = h.0

pub pairs-rest : {A : Type 0} (R : A → A → Type 0) (x : A) (xs : List A) → Pairs R (x ∷ xs) → Pairs R xs
unfolding Pairs
pairs-rest R x xs h = h.1

pub pairs-weaker : {A : Type 0} (R S : A → A → Type 0) (xs : List A) → ((x y : A) → Has x xs → Has y xs → R x y → S x y) → Pairs R xs → Pairs S xs
pairs-weaker R S [] tells h = pairs-none S
pairs-weaker R S (x ∷ xs) tells h =
    pairs-more S x xs (λ y here. tells x y (has_here x xs) (has_there y x xs here) (pairs-first R x xs h y here))
    (pairs-weaker R S xs (λ a b a_here b_here. tells a b (has_there a x xs a_here) (has_there b x xs b_here)) (pairs-rest R x xs h))

-- two elements are one, or it holds of them one way round or the other
pub pairs-two : {A : Type 0} (R : A → A → Type 0) (xs : List A) → Pairs R xs → (x y : A) → Has x xs → Has y xs → (x ≡ y) ⊎ (R x y ⊎ R y x)
pairs-two R [] h x y x_here y_here = absurd (has_none x x_here)
pairs-two {A} R (z ∷ zs) h x y x_here y_here =
    let first = pairs-first R z zs h in
    elim (has_cases x z zs x_here) [
      | inl x_same ↦ elim (has_cases y z zs y_here) [
        | inl y_same ↦ inl (sym x_same ∙ y_same)
        | inr y_later ↦ inr (inl (subst (λ (w : A). R w y) x_same (first y y_later)))
      ]
      | inr x_later ↦ elim (has_cases y z zs y_here) [
        | inl y_same ↦ inr (inr (subst (λ (w : A). R w x) y_same (first x x_later)))
        | inr y_later ↦ pairs-two R zs (pairs-rest R z zs h) x y x_later y_later
      ]
    ]

pub pairs-map : {A B : Type 0} (f : A → B) (R : B → B → Type 0) (xs : List A) → Pairs (λ x y. R (f x) (f y)) xs → Pairs R (map f xs)
pairs-map f R [] h = pairs-none R
pairs-map {A} {B} f R (x ∷ xs) h =
    pairs-more R (f x) (map f xs)
    (λ y here. let found = map-at f xs y here in subst (λ (z : B). R (f x) z) found.made
    (pairs-first (λ a b. R (f a) (f b)) x xs h found.source found.here))
    (pairs-map f R xs (pairs-rest (λ a b. R (f a) (f b)) x xs h))

pub pairs-unmap : {A B : Type 0} (f : A → B) (R : B → B → Type 0) (xs : List A) → Pairs R (map f xs) → Pairs (λ x y. R (f x) (f y)) xs
pairs-unmap f R [] h = pairs-none (λ x y. R (f x) (f y))
pairs-unmap f R (x ∷ xs) h =
    pairs-more (λ a b. R (f a) (f b)) x xs (λ y here. pairs-first R (f x) (map f xs) h (f y) (map-from f xs y here))
    (pairs-unmap f R xs (pairs-rest R (f x) (map f xs) h))

pub pairs-filter : {A : Type 0} (p : A → Bool) (R : A → A → Type 0) (xs : List A) → Pairs R xs → Pairs R (filter p xs)
pairs-filter p R [] h = pairs-none R
pairs-filter p R (x ∷ xs) h = by_test (p x) (pairs-filter p R xs (pairs-rest R x xs h))
  where
    by_test : (b : Bool) → Pairs R (filter p xs) → Pairs R (cond b (x ∷ filter p xs) (filter p xs))
    by_test true rest = pairs-more R x (filter p xs) (λ y here. pairs-first R x xs h y (filter-at p xs y here).0) rest
    by_test false rest = rest

pub pairs-append : {A : Type 0} (R : A → A → Type 0) (xs ys : List A) → Pairs R xs → Pairs R ys → ((x y : A) → Has x xs → Has y ys → R x y)
    → Pairs R (xs ++ ys)
pairs-append R [] ys left right across = right
pairs-append R (x ∷ xs) ys left right across =
    pairs-more R x (xs ++ ys)
    (λ z here. elim (append-at xs ys z here) [ inl l ↦ pairs-first R x xs left z l | inr r ↦ across x z (has_here x xs) r ])
    (pairs-append R xs ys (pairs-rest R x xs left) right (λ a b a_here b_here. across a b (has_there a x xs a_here) b_here))

pub pairs-right : {A : Type 0} (R : A → A → Type 0) (xs ys : List A) → Pairs R (xs ++ ys) → Pairs R ys
pairs-right R [] ys h = h
pairs-right R (x ∷ xs) ys h = pairs-right R xs ys (pairs-rest R x (xs ++ ys) h)

pub pairs-left : {A : Type 0} (R : A → A → Type 0) (xs ys : List A) → Pairs R (xs ++ ys) → Pairs R xs
pairs-left R [] ys h = pairs-none R
pairs-left R (x ∷ xs) ys h =
    pairs-more R x xs (λ y here. pairs-first R x (xs ++ ys) h y (append-left xs ys y here)) (pairs-left R xs ys (pairs-rest R x (xs ++ ys) h))

pub pairs-across : {A : Type 0} (R : A → A → Type 0) (xs ys : List A) → Pairs R (xs ++ ys) → (x y : A) → Has x xs → Has y ys → R x y
pairs-across R [] ys h x y x_here y_here = absurd (has_none x x_here)
pairs-across {A} R (z ∷ zs) ys h x y x_here y_here = elim (has_cases x z zs x_here) [
  | inl same ↦ subst (λ (w : A). R w y) same (pairs-first R z (zs ++ ys) h y (append-right zs ys y y_here))
  | inr later ↦ pairs-across R zs ys (pairs-rest R z (zs ++ ys) h) x y later y_here
]
