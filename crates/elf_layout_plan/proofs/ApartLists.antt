-- Facts of each element of a list, and of each two of its elements.
use Rattle.std.proofs.Common.{◌≡◌, ℕ, zero, suc, ◌<◌, Bool, true, false, cond, ◌&&◌, ◌||◌, ◌⊎◌, List, [], ◌∷◌, ◌++◌, map, length, refl, sym, ap, ◌∙◌, subst, inl, inr, arith, Option, Some, None}
use Rattle.std.specs.Prelude.{filter, find}
use Rattle.std.specs.List.{list_all, list_any, cons_option, filter_map, flat_map, slice_get}
use Rattle.std.proofs.lemmas.Bool.{false≢true, true≢false, or_cases}
use Rattle.std.proofs.lemmas.Option.{none-some, same_Some}

-- a fact of each element
abbrev pub Each : {A : Type 0} → (A → Type 0) → List A → Type 0
Each P [] = Unit {0}
Each P (x ∷ xs) = P x × Each P xs

-- a fact of each element with each that stands behind it
abbrev pub Pairs : {A : Type 0} → (A → A → Type 0) → List A → Type 0
Pairs R [] = Unit {0}
Pairs R (x ∷ xs) = Each (R x) xs × Pairs R xs

-- an element of a list, with a fact
abbrev pub Some_in : {A : Type 0} → (A → Type 0) → List A → Type 0
Some_in {A} P xs = (i : ℕ) × (x : A) × (slice_get xs i ≡ Some x) × P x

-- ## Each

module _ {A : Type 0} (P : A → Type 0) where
  pub each-at : (xs : List A) → Each P xs → (i : ℕ) (x : A) → slice_get xs i ≡ Some x → P x
  each-at [] h i x at = absurd (none-some x at)
  each-at (y ∷ xs) h zero x at = subst P (same_Some y x at) h.0
  each-at (y ∷ xs) h (suc i) x at = each-at xs h.1 i x at

  pub each-from : (xs : List A) → ((i : ℕ) (x : A) → slice_get xs i ≡ Some x → P x) → Each P xs
  each-from [] h = tt
  each-from (x ∷ xs) h = (h zero x refl, each-from xs (λ i y at. h (suc i) y at))

  pub each-all : ((x : A) → P x) → (xs : List A) → Each P xs
  each-all h [] = tt
  each-all h (x ∷ xs) = (h x, each-all h xs)

  pub each-more : (Q : A → Type 0) → ((x : A) → P x → Q x) → (xs : List A) → Each P xs → Each Q xs
  each-more Q more [] h = tt
  each-more Q more (x ∷ xs) h = (more x h.0, each-more Q more xs h.1)

  pub each-both : (Q : A → Type 0) → (xs : List A) → Each P xs → Each Q xs → Each (λ x. P x × Q x) xs
  each-both Q [] h k = tt
  each-both Q (x ∷ xs) h k = ((h.0, k.0), each-both Q xs h.1 k.1)

  pub each-append : (xs ys : List A) → Each P xs → Each P ys → Each P (xs ++ ys)
  each-append [] ys h k = k
  each-append (x ∷ xs) ys h k = (h.0, each-append xs ys h.1 k)

  pub each-front : (xs ys : List A) → Each P (xs ++ ys) → Each P xs
  each-front [] ys h = tt
  each-front (x ∷ xs) ys h = (h.0, each-front xs ys h.1)

  pub each-back : (xs ys : List A) → Each P (xs ++ ys) → Each P ys
  each-back [] ys h = h
  each-back (x ∷ xs) ys h = each-back xs ys h.1

  pub each-map : {B : Type 0} (f : B → A) (xs : List B) → Each (λ x. P (f x)) xs → Each P (map f xs)
  each-map f [] h = tt
  each-map f (x ∷ xs) h = (h.0, each-map f xs h.1)

  pub each-unmap : {B : Type 0} (f : B → A) (xs : List B) → Each P (map f xs) → Each (λ x. P (f x)) xs
  each-unmap f [] h = tt
  each-unmap f (x ∷ xs) h = (h.0, each-unmap f xs h.1)

  pub each-filter : (test : A → Bool) (xs : List A) → Each P xs → Each (λ x. (test x ≡ true) × P x) (filter test xs)
  each-filter test [] h = tt
  each-filter test (x ∷ xs) h = by_test (test x) refl (each-filter test xs h.1)
    where
      by_test : (b : Bool) → test x ≡ b → Each (λ y. (test y ≡ true) × P y) (filter test xs) → Each (λ y. (test y ≡ true) × P y) (cond b (x ∷ filter test xs) (filter test xs))
      by_test true e rest = ((e, h.0), rest)
      by_test false e rest = rest

  pub each-unfilter : (test : A → Bool) (xs : List A) → Each P (filter test xs) → Each (λ x. test x ≡ true → P x) xs
  each-unfilter test [] h = tt
  each-unfilter test (x ∷ xs) h = by_test (test x) refl h (each-unfilter test xs)
    where
      by_test : (b : Bool) → test x ≡ b → Each P (cond b (x ∷ filter test xs) (filter test xs)) → (Each P (filter test xs) → Each (λ y. test y ≡ true → P y) xs)
          → Each (λ y. test y ≡ true → P y) (x ∷ xs)
      by_test true e k rest = (λ _. k.0, rest k.1)
      by_test false e k rest = (λ t. absurd (false≢true (sym e ∙ t)), rest k)

  pub each-flat_map : {B : Type 0} (f : B → List A) (xs : List B) → Each (λ x. Each P (f x)) xs → Each P (flat_map f xs)
  each-flat_map f [] h = tt
  each-flat_map f (x ∷ xs) h = each-append (f x) (flat_map f xs) h.0 (each-flat_map f xs h.1)

  pub each-filter_map : {B : Type 0} (f : B → Option A) (xs : List B) → Each (λ y. (x : A) → f y ≡ Some x → P x) xs → Each P (filter_map f xs)
  each-filter_map f [] h = tt
  each-filter_map f (y ∷ ys) h = by_option (f y) refl (each-filter_map f ys h.1)
    where
      by_option : (o : Option A) → f y ≡ o → Each P (filter_map f ys) → Each P (cons_option o (filter_map f ys))
      by_option (Some x) e rest = (h.0 x e, rest)
      by_option None e rest = rest

-- ## Tests

module _ {A : Type 0} (test : A → Bool) where
  pub any-at : (xs : List A) → list_any test xs ≡ true → Some_in (λ x. test x ≡ true) xs
  any-at [] h = absurd (false≢true h)
  any-at (x ∷ xs) h = elim (or_cases (test x) (list_any test xs) h) [
    | inl here ↦ (zero, x, refl, here)
    | inr behind ↦ let (i, y, at, passes) = any-at xs behind in (suc i, y, at, passes)
  ]

  pub any-from : (xs : List A) (i : ℕ) (x : A) → slice_get xs i ≡ Some x → test x ≡ true → list_any test xs ≡ true
  any-from [] i x at passes = absurd (none-some x at)
  any-from (y ∷ xs) zero x at passes = ap (λ b. b || list_any test xs) (ap test (same_Some y x at) ∙ passes)
  any-from (y ∷ xs) (suc i) x at passes = by_test (test y) (any-from xs i x at passes)
    where
      by_test : (b : Bool) → list_any test xs ≡ true → (b || list_any test xs) ≡ true
      by_test true h = refl
      by_test false h = h

  pub none-from : (xs : List A) → Each (λ x. test x ≡ false) xs → list_any test xs ≡ false
  none-from [] h = refl
  none-from (x ∷ xs) h = ap (λ b. b || list_any test xs) h.0 ∙ none-from xs h.1

  pub none-at : (xs : List A) → list_any test xs ≡ false → Each (λ x. test x ≡ false) xs
  none-at [] h = tt
  none-at (x ∷ xs) h = by_test (test x) refl h (none-at xs)
    where
      by_test : (b : Bool) → test x ≡ b → (b || list_any test xs) ≡ false → (list_any test xs ≡ false → Each (λ y. test y ≡ false) xs) → (test x ≡ false) × Each (λ y. test y ≡ false) xs
      by_test true e k rest = absurd (true≢false k)
      by_test false e k rest = (e, rest k)

  pub all-at : (xs : List A) → list_all test xs ≡ true → Each (λ x. test x ≡ true) xs
  all-at [] h = tt
  all-at (x ∷ xs) h = by_test (test x) refl h (all-at xs)
    where
      by_test : (b : Bool) → test x ≡ b → (b && list_all test xs) ≡ true → (list_all test xs ≡ true → Each (λ y. test y ≡ true) xs) → (test x ≡ true) × Each (λ y. test y ≡ true) xs
      by_test true e k rest = (e, rest k)
      by_test false e k rest = absurd (false≢true k)

  pub all-from : (xs : List A) → Each (λ x. test x ≡ true) xs → list_all test xs ≡ true
  all-from [] h = refl
  all-from (x ∷ xs) h = ap (λ b. b && list_all test xs) h.0 ∙ all-from xs h.1

  pub find-at : (xs : List A) (x : A) → find test xs ≡ Some x → (i : ℕ) × (slice_get xs i ≡ Some x) × (test x ≡ true)
  find-at [] x h = absurd (none-some x h)
  find-at (y ∷ xs) x h = by_test (test y) refl h (find-at xs x)
    where
      by_test : (b : Bool) → test y ≡ b → cond b (Some y) (find test xs) ≡ Some x → (find test xs ≡ Some x → (i : ℕ) × (slice_get xs i ≡ Some x) × (test x ≡ true))
          → (i : ℕ) × (slice_get (y ∷ xs) i ≡ Some x) × (test x ≡ true)
      by_test true e k rest = (zero, k, ap test (sym (same_Some y x k)) ∙ e)
      by_test false e k rest = let (i, at, passes) = rest k in (suc i, at, passes)

  pub find-none : (xs : List A) → Each (λ x. test x ≡ false) xs → find test xs ≡ None
  find-none [] h = refl
  find-none (x ∷ xs) h = ap (λ b. cond b (Some x) (find test xs)) h.0 ∙ find-none xs h.1

  pub find-misses : (xs : List A) → find test xs ≡ None → Each (λ x. test x ≡ false) xs
  find-misses [] h = tt
  find-misses (x ∷ xs) h = by_test (test x) refl h (find-misses xs)
    where
      by_test : (b : Bool) → test x ≡ b → cond b (Some x) (find test xs) ≡ None → (find test xs ≡ None → Each (λ y. test y ≡ false) xs) → (test x ≡ false) × Each (λ y. test y ≡ false) xs
      by_test true e k rest = absurd (none-some x (sym k))
      by_test false e k rest = (e, rest k)

-- ## Pairs

module _ {A : Type 0} (R : A → A → Type 0) where
  pub pairs-append : (xs ys : List A) → Pairs R xs → Pairs R ys → Each (λ x. Each (R x) ys) xs → Pairs R (xs ++ ys)
  pairs-append [] ys h k cross = k
  pairs-append (x ∷ xs) ys h k cross = (each-append (R x) xs ys h.0 cross.0, pairs-append xs ys h.1 k cross.1)

  pub pairs-front : (xs ys : List A) → Pairs R (xs ++ ys) → Pairs R xs
  pairs-front [] ys h = tt
  pairs-front (x ∷ xs) ys h = (each-front (R x) xs ys h.0, pairs-front xs ys h.1)

  pub pairs-back : (xs ys : List A) → Pairs R (xs ++ ys) → Pairs R ys
  pairs-back [] ys h = h
  pairs-back (x ∷ xs) ys h = pairs-back xs ys h.1

  pub pairs-cross : (xs ys : List A) → Pairs R (xs ++ ys) → Each (λ x. Each (R x) ys) xs
  pairs-cross [] ys h = tt
  pairs-cross (x ∷ xs) ys h = (each-back (R x) xs ys h.0, pairs-cross xs ys h.1)

  pub pairs-map : {B : Type 0} (f : B → A) (xs : List B) → Pairs (λ x y. R (f x) (f y)) xs → Pairs R (map f xs)
  pairs-map f [] h = tt
  pairs-map f (x ∷ xs) h = (each-map (R (f x)) f xs h.0, pairs-map f xs h.1)

  pub pairs-unmap : {B : Type 0} (f : B → A) (xs : List B) → Pairs R (map f xs) → Pairs (λ x y. R (f x) (f y)) xs
  pairs-unmap f [] h = tt
  pairs-unmap f (x ∷ xs) h = (each-unmap (R (f x)) f xs h.0, pairs-unmap f xs h.1)

  pub pairs-filter : (test : A → Bool) (xs : List A) → Pairs R xs → Pairs R (filter test xs)
  pairs-filter test [] h = tt
  pairs-filter test (x ∷ xs) h = by_test (test x) (pairs-filter test xs h.1)
    where
      by_test : (b : Bool) → Pairs R (filter test xs) → Pairs R (cond b (x ∷ filter test xs) (filter test xs))
      by_test true rest = (each-more (λ y. (test y ≡ true) × R x y) (R x) (λ y k. k.1) (filter test xs) (each-filter (R x) test xs h.0), rest)
      by_test false rest = rest

  -- of two elements, with a fact of each
  pub pairs-more : (P : A → Type 0) (S : A → A → Type 0) → ((x y : A) → P x → P y → R x y → S x y) → (xs : List A) → Each P xs → Pairs R xs → Pairs S xs
  pairs-more P S more [] p h = tt
  pairs-more P S more (x ∷ xs) p h = (
    each-more (λ y. P y × R x y) (S x) (λ y k. more x y p.0 k.0 k.1) xs (each-both P (R x) xs p.1 h.0),
    pairs-more P S more xs p.1 h.1,
  )

  pub pairs-at : (xs : List A) → Pairs R xs → (i j : ℕ) (x y : A) → slice_get xs i ≡ Some x → slice_get xs j ≡ Some y → (x ≡ y) ⊎ (R x y ⊎ R y x)
  pairs-at [] h i j x y at_i at_j = absurd (none-some x at_i)
  pairs-at (z ∷ xs) h zero zero x y at_i at_j = inl (sym (same_Some z x at_i) ∙ same_Some z y at_j)
  pairs-at (z ∷ xs) h zero (suc j) x y at_i at_j = inr (inl (subst (λ (w : A). R w y) (same_Some z x at_i) (each-at (R z) xs h.0 j y at_j)))
  pairs-at (z ∷ xs) h (suc i) zero x y at_i at_j = inr (inr (subst (λ (w : A). R w x) (same_Some z y at_j) (each-at (R z) xs h.0 i x at_i)))
  pairs-at (z ∷ xs) h (suc i) (suc j) x y at_i at_j = pairs-at xs h.1 i j x y at_i at_j

-- facts of each two by an index
pub same_at : {A : Type 0} (xs : List A) (i : ℕ) (x y : A) → slice_get xs i ≡ Some x → slice_get xs i ≡ Some y → x ≡ y
same_at xs i x y at_x at_y = same_Some x y (sym at_x ∙ at_y)

pub filter-map : {A B : Type 0} (f : A → B) (p : B → Bool) (q : A → Bool) → ((x : A) → p (f x) ≡ q x) → (xs : List A) → filter p (map f xs) ≡ map f (filter q xs)
filter-map f p q same [] = refl
filter-map {A} {B} f p q same (x ∷ xs) = ap (λ b. cond b (f x ∷ filter p (map f xs)) (filter p (map f xs))) (same x) ∙ by_test (q x) (filter-map f p q same xs)
  where
    by_test : (b : Bool) → filter p (map f xs) ≡ map f (filter q xs) → cond b (f x ∷ filter p (map f xs)) (filter p (map f xs)) ≡ map f (cond b (x ∷ filter q xs) (filter q xs))
    by_test true e = ap (λ ys. f x ∷ ys) e
    by_test false e = e

pub map-at : {A B : Type 0} (f : A → B) (xs : List A) (i : ℕ) (y : B) → slice_get (map f xs) i ≡ Some y → (x : A) × (slice_get xs i ≡ Some x) × (f x ≡ y)
map-at f [] i y at = absurd (none-some y at)
map-at f (x ∷ xs) zero y at = (x, refl, same_Some (f x) y at)
map-at f (x ∷ xs) (suc i) y at = map-at f xs i y at

pub at-map : {A B : Type 0} (f : A → B) (xs : List A) (i : ℕ) (x : A) → slice_get xs i ≡ Some x → slice_get (map f xs) i ≡ Some (f x)
at-map f [] i x at = absurd (none-some x at)
at-map f (y ∷ xs) zero x at = ap (λ z. Some (f z)) (same_Some y x at)
at-map f (y ∷ xs) (suc i) x at = at-map f xs i x at

-- an element that a filter_map picks
pub at-filter_map : {A B : Type 0} (f : B → Option A) (ys : List B) (i : ℕ) (y : B) (x : A) → slice_get ys i ≡ Some y → f y ≡ Some x → (j : ℕ) × (slice_get (filter_map f ys) j ≡ Some x)
at-filter_map f [] i y x at e = absurd (none-some y at)
at-filter_map {A} {B} f (z ∷ ys) zero y x at e = (zero, ap (λ o. slice_get (cons_option o (filter_map f ys)) zero) (ap f (same_Some z y at) ∙ e))
at-filter_map {A} {B} f (z ∷ ys) (suc i) y x at e = by_option (f z) (at-filter_map f ys i y x at e)
  where
    by_option : (o : Option A) → ((j : ℕ) × (slice_get (filter_map f ys) j ≡ Some x)) → (j : ℕ) × (slice_get (cons_option o (filter_map f ys)) j ≡ Some x)
    by_option (Some w) found = (suc found.0, found.1)
    by_option None found = found

-- an element that a filter keeps
pub at-filter : {A : Type 0} (test : A → Bool) (xs : List A) (i : ℕ) (x : A) → slice_get xs i ≡ Some x → test x ≡ true → (j : ℕ) × (slice_get (filter test xs) j ≡ Some x)
at-filter test [] i x at e = absurd (none-some x at)
at-filter {A} test (y ∷ xs) zero x at e = (zero, ap (λ b. slice_get (cond b (y ∷ filter test xs) (filter test xs)) zero) (ap test (same_Some y x at) ∙ e) ∙ at)
at-filter {A} test (y ∷ xs) (suc i) x at e = by_test (test y) (at-filter test xs i x at e)
  where
    by_test : (b : Bool) → ((j : ℕ) × (slice_get (filter test xs) j ≡ Some x)) → (j : ℕ) × (slice_get (cond b (y ∷ filter test xs) (filter test xs)) j ≡ Some x)
    by_test true found = (suc found.0, found.1)
    by_test false found = found

-- where an element that a filter keeps stood
pub filter-at : {A : Type 0} (test : A → Bool) (xs : List A) (k : ℕ) (x : A) → slice_get (filter test xs) k ≡ Some x → (i : ℕ) × (slice_get xs i ≡ Some x) × (test x ≡ true)
filter-at test [] k x at = absurd (none-some x at)
filter-at {A} test (y ∷ xs) k x at = by_test (test y) refl k at (filter-at test xs)
  where
    by_test : (b : Bool) → test y ≡ b → (k : ℕ) → slice_get (cond b (y ∷ filter test xs) (filter test xs)) k ≡ Some x
        → ((k : ℕ) (x : A) → slice_get (filter test xs) k ≡ Some x → (i : ℕ) × (slice_get xs i ≡ Some x) × (test x ≡ true)) → (i : ℕ) × (slice_get (y ∷ xs) i ≡ Some x) × (test x ≡ true)
    by_test true e zero at rest = (zero, at, ap test (sym (same_Some y x at)) ∙ e)
    by_test true e (suc k) at rest = let (i, at_i, passes) = rest k x at in (suc i, at_i, passes)
    by_test false e k at rest = let (i, at_i, passes) = rest k x at in (suc i, at_i, passes)

pub each-unflat_map : {A B : Type 0} (P : A → Type 0) (f : B → List A) (xs : List B) → Each P (flat_map f xs) → Each (λ x. Each P (f x)) xs
each-unflat_map P f [] h = tt
each-unflat_map P f (x ∷ xs) h = (each-front P (f x) (flat_map f xs) h, each-unflat_map P f xs (each-back P (f x) (flat_map f xs) h))

-- each two, by their places
pub pairs-from : {A : Type 0} (R : A → A → Type 0) (xs : List A) → ((i j : ℕ) (x y : A) → i < j → slice_get xs i ≡ Some x → slice_get xs j ≡ Some y → R x y) → Pairs R xs
pairs-from R [] h = tt
pairs-from R (x ∷ xs) h = (each-from (R x) xs (λ j y at. h 0 (suc j) x y (omega arith) refl at), pairs-from R xs (λ i j y z less at_y at_z. h (suc i) (suc j) y z (omega arith) at_y at_z))

pub pairs-both : {A : Type 0} (R S : A → A → Type 0) (xs : List A) → Pairs R xs → Pairs S xs → Pairs (λ x y. R x y × S x y) xs
pairs-both R S [] h k = tt
pairs-both R S (x ∷ xs) h k = (each-both (R x) (S x) xs h.0 k.0, pairs-both R S xs h.1 k.1)

pub pairs-unfilter : {A : Type 0} (R : A → A → Type 0) (test : A → Bool) (xs : List A) → Pairs R (filter test xs) → Pairs (λ x y. test x ≡ true → test y ≡ true → R x y) xs
pairs-unfilter R test [] h = tt
pairs-unfilter {A} R test (x ∷ xs) h = by_test (test x) refl h (pairs-unfilter R test xs)
  where
    by_test : (b : Bool) → test x ≡ b → Pairs R (cond b (x ∷ filter test xs) (filter test xs))
        → (Pairs R (filter test xs) → Pairs (λ y z. test y ≡ true → test z ≡ true → R y z) xs) → Pairs (λ y z. test y ≡ true → test z ≡ true → R y z) (x ∷ xs)
    by_test true e k rest = (each-more (λ y. test y ≡ true → R x y) (λ y. test x ≡ true → test y ≡ true → R x y) (λ y more _. more) xs (each-unfilter (R x) test xs k.0), rest k.1)
    by_test false e k rest = (each-all (λ y. test x ≡ true → test y ≡ true → R x y) (λ y passes. absurd (false≢true (sym e ∙ passes))) xs, rest k)

-- of two places in order
pub pairs-less : {A : Type 0} (R : A → A → Type 0) (xs : List A) → Pairs R xs → (i j : ℕ) (x y : A) → i < j → slice_get xs i ≡ Some x → slice_get xs j ≡ Some y → R x y
pairs-less R [] h i j x y less at_x at_y = absurd (none-some x at_x)
pairs-less R (z ∷ xs) h zero zero x y less at_x at_y = absurd (omega arith)
pairs-less {A} R (z ∷ xs) h zero (suc j) x y less at_x at_y = subst (λ (w : A). R w y) (same_Some z x at_x) (each-at (R z) xs h.0 j y at_y)
pairs-less R (z ∷ xs) h (suc i) zero x y less at_x at_y = absurd (omega arith)
pairs-less R (z ∷ xs) h (suc i) (suc j) x y less at_x at_y = pairs-less R xs h.1 i j x y (omega arith) at_x at_y

-- an element of a list with one behind it
pub push-at : {A : Type 0} (xs : List A) (y : A) (j : ℕ) (x : A) → slice_get (xs ++ y ∷ []) j ≡ Some x → (slice_get xs j ≡ Some x) ⊎ ((j ≡ length xs) × (x ≡ y))
push-at [] y zero x at = inr (refl, sym (same_Some y x at))
push-at [] y (suc j) x at = absurd (none-some x at)
push-at (z ∷ xs) y zero x at = inl at
push-at (z ∷ xs) y (suc j) x at = elim (push-at xs y j x at) [
  | inl here ↦ inl here
  | inr last ↦ inr (ap suc last.0, last.1)
]

-- an element of the one list, or of the other, is one of both
pub append-front_at : {A : Type 0} (xs ys : List A) (i : ℕ) (x : A) → slice_get xs i ≡ Some x → (j : ℕ) × (slice_get (xs ++ ys) j ≡ Some x)
append-front_at [] ys i x at = absurd (none-some x at)
append-front_at (z ∷ xs) ys zero x at = (zero, at)
append-front_at (z ∷ xs) ys (suc i) x at = let (j, at_j) = append-front_at xs ys i x at in (suc j, at_j)

pub append-back_at : {A : Type 0} (xs ys : List A) (i : ℕ) (x : A) → slice_get ys i ≡ Some x → (j : ℕ) × (slice_get (xs ++ ys) j ≡ Some x)
append-back_at [] ys i x at = (i, at)
append-back_at (z ∷ xs) ys i x at = let (j, at_j) = append-back_at xs ys i x at in (suc j, at_j)

pub flat_map-at : {A B : Type 0} (f : B → List A) (ys : List B) (k : ℕ) (y : B) (i : ℕ) (x : A) → slice_get ys k ≡ Some y → slice_get (f y) i ≡ Some x → (j : ℕ) × (slice_get (flat_map f ys) j ≡ Some x)
flat_map-at f [] k y i x at_y at = absurd (none-some y at_y)
flat_map-at {A} {B} f (z ∷ ys) zero y i x at_y at = append-front_at (f z) (flat_map f ys) i x (subst (λ (w : B). slice_get (f w) i ≡ Some x) (sym (same_Some z y at_y)) at)
flat_map-at f (z ∷ ys) (suc k) y i x at_y at = let (j, at_j) = flat_map-at f ys k y i x at_y at in append-back_at (f z) (flat_map f ys) j x at_j
