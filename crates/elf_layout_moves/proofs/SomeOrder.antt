-- Sections with a property, in the order in which they stood.
use Rattle.std.proofs.Common.{◌≡◌, ℕ, zero, suc, ◌<◌, ◌≤◌, ◌⊎◌, List, [], ◌∷◌, Bool, true, false, ◌&&◌, ◌||◌, length, map, refl, sym, ap, ◌∙◌, inl, inr, arith}
use Rattle.std.specs.Prelude.{if◌then◌else◌, nat_lt, slice_get, ◌==◌}
use Rattle.std.specs.List.{AllByRecursion, list_any}
use Rattle.std.specs.List.Sorted.{IsStrictlySortedBy}
use Rattle.std.specs.Ordering.{is_eq, ordering_reverse}
use Rattle.std.specs.declared.cmp.Ordering.{Ordering}
use Rattle.std.specs.declared.cmp.Ordering.TheVariants.{Less, Equal, Greater}
use Rattle.std.proofs.lemmas.Bool.{and_right, cases_order, eq-eqb, le-ltb, lt-ltb, ne_eqb}
use Rattle.elf_format.specs.Options.{is_one_of}
use Rattle.elf_layout_plan.specs.Memory.{Resized}
use Rattle.elf_layout_plan.specs.Rounds.{are_in_old_order, sections_at}
use Rattle.elf_layout_moves.specs.BlockSteps.{old_key}
use Rattle.elf_layout_moves.specs.ImageBlocks.{AreNumbered}
use Rattle.elf_layout_moves.proofs.OldOrder.{IsKeyOf, are_same-true, any-map, in_order, key_of_section, own_position, same_at_equal}
use Rattle.elf_layout_moves.proofs.OrderSteps.{Three, by_three, by_three_total}

either_way : (a b c : Bool) → (a || (b || c)) ≡ (b || (a || c))
either_way true true c = refl
either_way true false c = refl
either_way false b c = refl

or_twice : (a b : Bool) → (a || (a || b)) ≡ (a || b)
or_twice true b = refl
or_twice false b = refl

-- ## One key more

abbrev put_by : Ordering → Three → Three → List Three → List Three → List Three
put_by Less k c cs rest = k ∷ c ∷ cs
put_by Equal k c cs rest = c ∷ cs
put_by Greater k c cs rest = c ∷ rest

-- puts a key before the first one that it comes before
put_key : Three → List Three → List Three
put_key k [] = k ∷ []
put_key k (c ∷ cs) = put_by (by_three k c) k c cs (put_key k cs)

all_put : (P : Three → Type 0) (k : Three) (cs : List Three) → P k → AllByRecursion P cs → AllByRecursion P (put_key k cs)
unfolding put_key
all_put P k [] here all = (here, tt)
all_put P k (c ∷ cs) here (first, all) = by_order (by_three k c) (all_put P k cs here all)
  where
    by_order : (o : Ordering) → AllByRecursion P (put_key k cs) → AllByRecursion P (put_by o k c cs (put_key k cs))
    by_order Less rest = (here, (first, all))
    by_order Equal rest = (first, all)
    by_order Greater rest = (first, rest)

after_all : (k c : Three) (cs : List Three) → by_three k c ≡ Less → AllByRecursion (λ y. by_three c y ≡ Less) cs → AllByRecursion (λ y. by_three k y ≡ Less) cs
after_all k c [] less all = tt
after_all k c (d ∷ cs) less (first, all) = (by_three_total.trans k c d less first, after_all k c cs less all)

put_sorted : (k : Three) (cs : List Three) → IsStrictlySortedBy by_three cs → IsStrictlySortedBy by_three (put_key k cs)
unfolding put_key IsStrictlySortedBy
put_sorted k [] up = (tt, tt)
put_sorted k (c ∷ cs) (first, up) = by_order (by_three k c) refl (put_sorted k cs up)
  where
    by_order : (o : Ordering) → by_three k c ≡ o → IsStrictlySortedBy by_three (put_key k cs) → IsStrictlySortedBy by_three (put_by o k c cs (put_key k cs))
    by_order Less is rest = ((is, after_all k c cs is first), (first, up))
    by_order Equal is rest = (first, up)
    by_order Greater is rest = (all_put (λ y. by_three c y ≡ Less) k cs (by_three_total.antisymm c k ∙ ap ordering_reverse is) first, rest)

put_any : (test : Three → Bool) (k : Three) (cs : List Three) → list_any test (put_key k cs) ≡ (test k || list_any test cs)
unfolding put_key
put_any test k [] = refl
put_any test k (c ∷ cs) = by_order (by_three k c) refl (put_any test k cs)
  where
    by_order : (o : Ordering) → by_three k c ≡ o → list_any test (put_key k cs) ≡ (test k || list_any test cs) → list_any test (put_by o k c cs (put_key k cs)) ≡ (test k || (test c || list_any test cs))
    by_order Less is rest = refl
    by_order Equal is rest =
        let same : k ≡ c = are_same-true k c (same_at_equal k c ∙ ap is_eq is) in
        sym (or_twice (test c) (list_any test cs)) ∙ ap (λ (x : Three). test x || (test c || list_any test cs)) (sym same)
    by_order Greater is rest = ap (λ (t : Bool). test c || t) rest ∙ either_way (test c) (test k) (list_any test cs)

-- ## Sections before a place that pass a test

module _ (r : Resized) (numbered : AreNumbered r.image) (sized : length r.sizes ≡ length r.image.sections) (test : ℕ → Bool) where
  -- the keys of the sections before a place that pass
  keys_below : ℕ → List Three
  keys_below zero = []
  keys_below (suc n) = if test n then put_key (old_key r.image n) (keys_below n) else keys_below n

  keys_sorted : (n : ℕ) → IsStrictlySortedBy by_three (keys_below n)
  unfolding keys_below IsStrictlySortedBy
  keys_sorted zero = tt
  keys_sorted (suc n) = by_test (test n) (keys_sorted n)
    where
      by_test : (b : Bool) → IsStrictlySortedBy by_three (keys_below n) → IsStrictlySortedBy by_three (if b then put_key (old_key r.image n) (keys_below n) else keys_below n)
      by_test true up = put_sorted (old_key r.image n) (keys_below n) up
      by_test false up = up

  keys_there : (n : ℕ) → n ≤ length r.image.sections → AllByRecursion (IsKeyOf r) (keys_below n)
  unfolding keys_below
  keys_there zero within = tt
  keys_there (suc n) within = by_test (test n) (keys_there n (omega (arith, within)))
    where
      by_test : (b : Bool) → AllByRecursion (IsKeyOf r) (keys_below n) → AllByRecursion (IsKeyOf r) (if b then put_key (old_key r.image n) (keys_below n) else keys_below n)
      by_test true all = all_put (IsKeyOf r) (old_key r.image n) (keys_below n) (key_of_section r numbered sized n (omega (arith, within))) all
      by_test false all = all

  and_true : (a : Bool) → a ≡ (a && true)
  and_true true = refl
  and_true false = refl

  or_false : (b : Bool) → (b || false) ≡ b
  or_false true = refl
  or_false false = refl

  one_among : (n q : ℕ) (rest : Bool) → list_any (λ (k : Three). k.2 == q) (keys_below n) ≡ rest → (b : Bool)
      → list_any (λ (k : Three). k.2 == q) (if b then put_key (old_key r.image n) (keys_below n) else keys_below n) ≡ ((n == q && b) || rest)
  one_among n q rest is true =
      put_any (λ (k : Three). k.2 == q) (old_key r.image n) (keys_below n)
      ∙ ap (λ (p : ℕ). p == q || list_any (λ (k : Three). k.2 == q) (keys_below n)) (own_position (slice_get r.image.sections n) n)
      ∙ ap (λ (b : Bool). n == q || b) is ∙ ap (λ (b : Bool). b || rest) (and_true (n == q))
  one_among n q rest is false = is ∙ ap (λ (b : Bool). b || rest) (sym (and_right (n == q) false refl))

  one_place : (n q : ℕ) → (q ≡ n) ⊎ ((q < n) ⊎ (n < q)) → ((n == q && test n) || (nat_lt q n && test q)) ≡ (nat_lt q (suc n) && test q)
  one_place n q (inl same) =
      ap (λ (b : Bool). (b && test n) || (nat_lt q n && test q)) (eq-eqb n q (sym same))
      ∙ ap (λ (b : Bool). test n || (b && test q)) (le-ltb q n (omega (arith, same)))
      ∙ or_false (test n) ∙ ap test (sym same) ∙ sym (ap (λ (b : Bool). b && test q) (lt-ltb q (suc n) (omega (arith, same))))
  one_place n q (inr (inl less)) =
      ap (λ (b : Bool). (b && test n) || (nat_lt q n && test q)) (ne_eqb n q (λ same. omega (arith, same, less)))
      ∙ ap (λ (b : Bool). b && test q) (lt-ltb q n less ∙ sym (lt-ltb q (suc n) (omega (arith, less))))
  one_place n q (inr (inr more)) =
      ap (λ (b : Bool). (b && test n) || (nat_lt q n && test q)) (ne_eqb n q (λ same. omega (arith, same, more)))
      ∙ ap (λ (b : Bool). b && test q) (le-ltb q n (omega (arith, more)) ∙ sym (le-ltb q (suc n) (omega (arith, more))))

  -- a position is among them where it is below, and passes
  among : (n q : ℕ) → list_any (λ (k : Three). k.2 == q) (keys_below n) ≡ (nat_lt q n && test q)
  unfolding keys_below
  among zero q = sym (ap (λ (b : Bool). b && test q) (le-ltb q zero (omega arith)))
  among (suc n) q = one_among n q (nat_lt q n && test q) (among n q) (test n) ∙ one_place n q (cases_order q n)

  -- The positions of the sections that pass, in the order in which they stood.
  pub some_in_order : (also : List ℕ) × (are_in_old_order (sections_at r also) ≡ true) × ((q : ℕ) → is_one_of also q ≡ (nat_lt q (length r.image.sections) && test q))
  some_in_order =
      let n : ℕ = length r.image.sections in (
        map (λ (k : Three). k.2) (keys_below n),
        in_order r numbered sized (keys_below n) (keys_there n (omega arith)) (keys_sorted n),
        λ q. any-map (λ (k : Three). k.2) q (keys_below n) ∙ among n q,
      )
