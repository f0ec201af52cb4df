-- Joining is the same in any order.
use Rattle.std.proofs.Common.{◌≡◌, ℕ, zero, suc, ◌<◌, ◌≤◌, max, Bool, true, false, ◌&&◌, ◌⊎◌, inl, inr, List, [], ◌∷◌, length, set, get_or, refl, sym, ap, ◌∙◌, Option, Some, None, arith}
use Rattle.std.specs.Prelude.{fold, if◌then◌else◌, nat_lt, ◌==◌, IsPermutation}
use Rattle.std.specs.List.{swap}
use Rattle.std.proofs.lemmas.Bool.{and_from, and_parts, cases_Bool, cases_eq, cases_order, eq-eqb, eqb-true, lt-ltb, ltb-true, or_cases, or_left, or_right, true≢false}
use Rattle.std.proofs.lemmas.List.{length-set, set-get_or}
use Rattle.std.proofs.lemmas.List.Sorted.{IsPermutation-keeps}
use Rattle.elf_layout.specs.declared.reaches.Reach.{Reach}
use Rattle.elf_layout.specs.Reaches.{first_of, is_before, joined, joined_all, over}

-- ## Which stands first

IsEarlier : Reach → Reach → Type 0
IsEarlier a b = (a.offset < b.offset) ⊎ ((a.offset ≡ b.offset) × (a.position < b.position))

earlier : (a b : Reach) → is_before a b ≡ true → IsEarlier a b
unfolding IsEarlier
earlier a b h = elim (or_cases (nat_lt a.offset b.offset) (a.offset == b.offset && nat_lt a.position b.position) h) [
  | inl less ↦ inl (ltb-true a.offset b.offset less)
  | inr more ↦
      let parts = and_parts (a.offset == b.offset) (nat_lt a.position b.position) more in
      inr (eqb-true a.offset b.offset parts.0, ltb-true a.position b.position parts.1)
]

before : (a b : Reach) → IsEarlier a b → is_before a b ≡ true
unfolding IsEarlier
before a b (inl less) = or_left (nat_lt a.offset b.offset) (a.offset == b.offset && nat_lt a.position b.position) (lt-ltb a.offset b.offset less)
before a b (inr (same, less)) =
    or_right (nat_lt a.offset b.offset) (a.offset == b.offset && nat_lt a.position b.position)
    (and_from (a.offset == b.offset) (nat_lt a.position b.position) (eq-eqb a.offset b.offset same) (lt-ltb a.position b.position less))

-- one of two reaches is earlier, or both stand at one place
compared : (a b : Reach) → IsEarlier a b ⊎ (IsEarlier b a ⊎ ((a.offset ≡ b.offset) × (a.position ≡ b.position)))
unfolding IsEarlier
compared a b = elim (cases_order a.offset b.offset) [
  | inl same ↦ elim (cases_order a.position b.position) [
    | inl also ↦ inr (inr (same, also))
    | inr (inl less) ↦ inl (inr (same, less))
    | inr (inr more) ↦ inr (inl (inr (sym same, more)))
  ]
  | inr (inl less) ↦ inl (inl less)
  | inr (inr more) ↦ inr (inl (inl more))
]

not_both : (a b : Reach) → is_before a b ≡ true → is_before b a ≡ true → ⊥
unfolding IsEarlier
not_both a b x y = elim (earlier a b x) [
  | inl less ↦ elim (earlier b a y) [ inl more ↦ omega (arith, less, more) | inr same ↦ omega (arith, less, same.0) ]
  | inr same ↦ elim (earlier b a y) [ inl more ↦ omega (arith, same.0, more) | inr also ↦ omega (arith, same.1, also.1) ]
]

before_all : (a b c : Reach) → is_before c b ≡ true → is_before b a ≡ true → is_before c a ≡ true
unfolding IsEarlier
before_all a b c x y = elim (earlier c b x) [
  | inl less ↦ elim (earlier b a y) [ inl more ↦ before c a (inl (omega (arith, less, more))) | inr same ↦ before c a (inl (omega (arith, less, same.0))) ]
  | inr same ↦ elim (earlier b a y) [ inl more ↦ before c a (inl (omega (arith, same.0, more))) | inr also ↦ before c a (inr (same.0 ∙ also.0, omega (arith, same.1, also.1))) ]
]

before_later : (a b c : Reach) → is_before c a ≡ true → is_before b a ≡ false → is_before c b ≡ true
unfolding IsEarlier
before_later a b c x y = elim (compared b a) [
  | inl e ↦ absurd (true≢false (sym (before b a e) ∙ y))
  | inr (inl e) ↦ before_all b a c x (before a b e)
  | inr (inr same) ↦ elim (earlier c a x) [
    | inl less ↦ before c b (inl (omega (arith, less, same.0)))
    | inr at ↦ before c b (inr (at.0 ∙ sym same.0, omega (arith, at.1, same.1)))
  ]
]

-- ## Joining

abbrev with_end : Reach → ℕ → Reach
with_end a n = record { offset = a.offset; position = a.position; end = n }

same_place : (a b : Reach) (n : ℕ) → a.offset ≡ b.offset → a.position ≡ b.position → with_end a n ≡ with_end b n
same_place a b n o p =
    ap (λ (k : ℕ). let r : Reach = record { offset = k; position = a.position; end = n } in r) o
    ∙ ap (λ (k : ℕ). let r : Reach = record { offset = b.offset; position = k; end = n } in r) p

max_swap : (a b : ℕ) → max a b ≡ max b a
max_swap a b = omega arith

max_group : (a b c : ℕ) → max (max a b) c ≡ max a (max b c)
max_group a b c = omega arith

pub joined-none : (o : Option Reach) → joined o None ≡ o
joined-none None = refl
joined-none (Some a) = refl

first_swap : (a b : Reach) (n : ℕ) → with_end (first_of a b) n ≡ with_end (first_of b a) n
first_swap a b n = by_tests (is_before b a) (is_before a b) refl refl
  where
    by_tests : (x y : Bool) → is_before b a ≡ x → is_before a b ≡ y → with_end (if x then b else a) n ≡ with_end (if y then a else b) n
    by_tests true true ba ab = absurd (not_both a b ab ba)
    by_tests true false ba ab = refl
    by_tests false true ba ab = refl
    by_tests false false ba ab = elim (compared a b) [
      | inl e ↦ absurd (true≢false (sym (before a b e) ∙ ab))
      | inr (inl e) ↦ absurd (true≢false (sym (before b a e) ∙ ba))
      | inr (inr same) ↦ same_place a b n same.0 same.1
    ]

pub joined-swap : (o u : Option Reach) → joined o u ≡ joined u o
joined-swap None None = refl
joined-swap None (Some b) = refl
joined-swap (Some a) None = refl
joined-swap (Some a) (Some b) =
    ap (λ (n : ℕ). Some (with_end (first_of a b) n)) (max_swap a.end b.end) ∙ ap Some (first_swap a b (max b.end a.end))

first_group : (a b c : Reach) (n : ℕ) → with_end (if is_before c (first_of a b) then c else first_of a b) n ≡ with_end (if is_before (first_of b c) a then first_of b c else a) n
first_group a b c n = by_tests (is_before b a) (is_before c b) refl refl
  where
    by_tests : (x y : Bool) → is_before b a ≡ x → is_before c b ≡ y
        → with_end (if is_before c (if x then b else a) then c else (if x then b else a)) n ≡ with_end (if is_before (if y then c else b) a then (if y then c else b) else a) n
    by_tests true true ba cb =
        ap (λ (t : Bool). with_end (if t then c else b) n) cb ∙ sym (ap (λ (t : Bool). with_end (if t then c else a) n) (before_all a b c cb ba))
    by_tests true false ba cb =
        ap (λ (t : Bool). with_end (if t then c else b) n) cb ∙ sym (ap (λ (t : Bool). with_end (if t then b else a) n) ba)
    by_tests false true ba cb = refl
    by_tests false false ba cb = elim (cases_Bool (is_before c a)) [
      | inl ca ↦ absurd (true≢false (sym (before_later a b c ca ba) ∙ cb))
      | inr ca ↦ ap (λ (t : Bool). with_end (if t then c else a) n) ca ∙ sym (ap (λ (t : Bool). with_end (if t then b else a) n) ba)
    ]

drop_else : (t : Bool) (c x : Reach) (m n : ℕ) → with_end (if t then c else with_end x m) n ≡ with_end (if t then c else x) n
drop_else true c x m n = refl
drop_else false c x m n = refl

drop_then : (t : Bool) (a y : Reach) (m n : ℕ) → with_end (if t then with_end y m else a) n ≡ with_end (if t then y else a) n
drop_then true a y m n = refl
drop_then false a y m n = refl

joined-group-somes : (a b c : Reach) → joined (joined (Some a) (Some b)) (Some c) ≡ joined (Some a) (joined (Some b) (Some c))
joined-group-somes a b c =
    let x : Reach = first_of a b in
    let y : Reach = first_of b c in
    let n : ℕ = max a.end (max b.end c.end) in
    ap (λ (k : ℕ). Some (with_end (if is_before c x then c else with_end x (max a.end b.end)) k)) (max_group a.end b.end c.end)
    ∙ ap Some (drop_else (is_before c x) c x (max a.end b.end) n)
    ∙ ap Some (first_group a b c n)
    ∙ sym (ap Some (drop_then (is_before y a) a y (max b.end c.end) n))

pub joined-group : (o u v : Option Reach) → joined (joined o u) v ≡ joined o (joined u v)
joined-group None u v = refl
joined-group (Some a) None v = refl
joined-group (Some a) (Some b) None = refl
joined-group (Some a) (Some b) (Some c) = joined-group-somes a b c

-- ## Lists of them

pub joined_from : (o : Option Reach) (xs : List (Option Reach)) → fold joined o xs ≡ joined o (joined_all xs)
joined_from o [] = sym (joined-none o)
joined_from o (x ∷ xs) = joined_from (joined o x) xs ∙ joined-group o x (joined_all xs) ∙ ap (joined o) (sym (joined_from x xs))

pub joined_all-cons : (x : Option Reach) (xs : List (Option Reach)) → joined_all (x ∷ xs) ≡ joined x (joined_all xs)
joined_all-cons x xs = joined_from x xs

swap_three : (a b c : Option Reach) → joined a (joined b c) ≡ joined b (joined a c)
swap_three a b c = sym (joined-group a b c) ∙ ap (λ o. joined o c) (joined-swap a b) ∙ joined-group b a c

one_place : (xs : List (Option Reach)) (i : ℕ) (a : Option Reach) → i < length xs → joined_all (set xs i a) ≡ joined a (joined_all (set xs i None))
one_place [] i a h = absurd (omega (arith, h))
one_place (x ∷ xs) zero a h = joined_all-cons a xs
one_place (x ∷ xs) (suc i) a h =
    joined_all-cons x (set xs i a) ∙ ap (joined x) (one_place xs i a (omega (arith, h))) ∙ swap_three x a (joined_all (set xs i None))
    ∙ ap (joined a) (sym (joined_all-cons x (set xs i None)))

two_places : (xs : List (Option Reach)) (i j : ℕ) (a b : Option Reach) → (i ≡ j → ⊥) → i < length xs → j < length xs
    → joined_all (set (set xs i a) j b) ≡ joined b (joined a (joined_all (set (set xs i None) j None)))
two_places xs i j a b other hi hj =
    one_place (set xs i a) j b (omega (arith, hj, length-set xs i a))
    ∙ ap (joined b) (ap joined_all (sets-swap xs i j a None other) ∙ one_place (set xs j None) i a (omega (arith, hi, length-set xs j None))
    ∙ ap (joined a) (ap joined_all (sym (sets-swap xs i j None None other))))
  where
    sets-swap : (ys : List (Option Reach)) (k m : ℕ) (c d : Option Reach) → (k ≡ m → ⊥) → set (set ys k c) m d ≡ set (set ys m d) k c
    sets-swap [] k m c d o = refl
    sets-swap (y ∷ ys) zero zero c d o = absurd (o refl)
    sets-swap (y ∷ ys) zero (suc m) c d o = refl
    sets-swap (y ∷ ys) (suc k) zero c d o = refl
    sets-swap (y ∷ ys) (suc k) (suc m) c d o = ap (λ l. y ∷ l) (sets-swap ys k m c d (λ e. o (ap suc e)))

swapped : (xs : List (Option Reach)) (i j : ℕ) (d : Option Reach) → i < length xs → j < length xs
    → joined_all (set (set xs i (get_or xs j d)) j (get_or xs i d)) ≡ joined_all xs
swapped xs i j d hi hj = elim (cases_eq i j) [
  | inl same ↦
      let x : Option Reach = get_or xs i d in
      ap (λ (k : ℕ). joined_all (set (set xs i (get_or xs k d)) k x)) (sym same)
      ∙ ap (λ l. joined_all (set l i x)) (set-get_or xs i d) ∙ ap joined_all (set-get_or xs i d)
  | inr other ↦
      let x : Option Reach = get_or xs i d in
      let y : Option Reach = get_or xs j d in
      let rest : Option Reach = joined_all (set (set xs i None) j None) in
      two_places xs i j y x other hi hj ∙ swap_three x y rest ∙ sym (two_places xs i j x y other hi hj)
      ∙ ap (λ l. joined_all (set l j y)) (set-get_or xs i d) ∙ ap joined_all (set-get_or xs j d)
]

joined_all-swap : (xs : List (Option Reach)) (i j : ℕ) → i < length xs → j < length xs → joined_all (swap xs i j) ≡ joined_all xs
joined_all-swap [] i j hi hj = refl
joined_all-swap (x ∷ xs) i j hi hj = swapped (x ∷ xs) i j x hi hj

pub joined_all-permutation : (xs ys : List (Option Reach)) → IsPermutation xs ys → joined_all ys ≡ joined_all xs
joined_all-permutation xs ys same =
    IsPermutation-keeps xs (λ l. joined_all l ≡ joined_all xs) refl (λ l i j hi hj e. joined_all-swap l i j hi hj ∙ e) ys same

-- ## Those between two places

pub over_none : (xs : List (Option Reach)) (low high : ℕ) → high ≤ low → over xs low high ≡ None
unfolding over
over_none [] low high h = refl
over_none (x ∷ xs) zero zero h = refl
over_none (x ∷ xs) zero (suc high) h = absurd (omega (arith, h))
over_none (x ∷ xs) (suc low) zero h = refl
over_none (x ∷ xs) (suc low) (suc high) h = over_none xs low high (omega (arith, h))

pub over_first : (xs : List (Option Reach)) (low high : ℕ) → low < high → high ≤ length xs → over xs low high ≡ joined (get_or xs low None) (over xs (suc low) high)
unfolding over
over_first [] low high h g = absurd (omega (arith, h, g))
over_first (x ∷ xs) zero zero h g = absurd (omega (arith, h))
over_first (x ∷ xs) zero (suc high) h g = refl
over_first (x ∷ xs) (suc low) zero h g = absurd (omega (arith, h))
over_first (x ∷ xs) (suc low) (suc high) h g = over_first xs low high (omega (arith, h)) (omega (arith, g))

pub over_last : (xs : List (Option Reach)) (low high : ℕ) → low ≤ high → high < length xs → over xs low (suc high) ≡ joined (over xs low high) (get_or xs high None)
unfolding over
over_last [] low high h g = absurd (omega (arith, g))
over_last (x ∷ xs) zero zero h g = ap (joined x) (over_none xs 0 0 (omega arith)) ∙ joined-none x
over_last (x ∷ xs) zero (suc high) h g = ap (joined x) (over_last xs zero high (omega arith) (omega (arith, g))) ∙ sym (joined-group x (over xs 0 high) (get_or xs high None))
over_last (x ∷ xs) (suc low) zero h g = absurd (omega (arith, h))
over_last (x ∷ xs) (suc low) (suc high) h g = over_last xs low high (omega (arith, h)) (omega (arith, g))
