-- Sections sorted by what they are ordered by.
use Rattle.std.proofs.Common.{◌≡◌, ℕ, zero, suc, ◌+◌, ◌<◌, List, [], ◌∷◌, ◌++◌, Bool, true, false, ◌&&◌, ◌||◌, add-zero, length, map, refl, sym, ap, ◌∙◌, subst, inl, inr, get_or, arith}
use Rattle.std.specs.Prelude.{All, Contains, IsPermutation, IsSorted, Option, None, Some, slice_get, ◌==◌}
use Rattle.std.specs.Cmp.{IsEquivalence}
use Rattle.std.specs.List.{AllByRecursion, cons_option, dedup, list_any}
use Rattle.std.specs.List.Sorted.{IsStrictlySortedBy}
use Rattle.std.specs.Ordering.{eq_by_cmp}
use Rattle.std.proofs.lemmas.Bool.{and_from, and_parts, both_ways, cases_order, eq-eqb, eqb-true, ne_eqb}
use Rattle.std.proofs.lemmas.Cmp.{and_equiv, nat_eq_equiv, on_equiv}
use Rattle.std.proofs.lemmas.List.{length-map}
use Rattle.std.proofs.lemmas.List.Elements.{All-from_recursion, recursion_from_All}
use Rattle.std.proofs.lemmas.List.Filters.{All-dedup}
use Rattle.std.proofs.lemmas.List.Folds.{Any-from_list_any, list_any-from_Any}
use Rattle.std.proofs.lemmas.List.Kept.{Contains-dedup, Contains-from_dedup, IsStrictlySortedBy-dedup}
use Rattle.std.proofs.lemmas.List.Sorted.{All-permutation, list_any-IsPermutation}
use Rattle.std.proofs.lemmas.Option.{same_Some, slice_get_cases, slice_get_within}
use Rattle.elf_format.specs.Image.{Image, ImageSection}
use Rattle.elf_format.specs.Options.{is_one_of}
use Rattle.elf_image.specs.ImageModel.{section_model}
use Rattle.elf_image.specs.declared.section.Section.{Section}
use Rattle.elf_image.specs.Kept.{kept_from}
use Rattle.elf_layout_plan.specs.Memory.{Resized, SizedSection, sized_from, sized_sections}
use Rattle.elf_layout_plan.specs.Rounds.{are_in_old_order, comes_before, sections_at}
use Rattle.elf_layout_moves.specs.BlockSteps.{key_at, old_key}
use Rattle.elf_layout_moves.specs.ImageBlocks.{AreNumbered, sized_at}
use Rattle.elf_layout_moves.proofs.ImageSteps.{seen_section}
use Rattle.elf_layout_moves.proofs.OrderSteps.{Three, by_three, by_three_total, cmp_equal, cmp_greater, cmp_less, is_less, less_means}

-- ## Three numbers that are the same

abbrev pub are_same : Three → Three → Bool
are_same x y = x.0 == y.0 && x.1 == y.1 && x.2 == y.2

same_three : (x y : Three) → x.0 ≡ y.0 → x.1 ≡ y.1 → x.2 ≡ y.2 → x ≡ y
same_three x y a b c = ap (λ (n : ℕ). let t : Three = (n, x.1, x.2) in t) a ∙ ap (λ (n : ℕ). let t : Three = (y.0, n, x.2) in t) b ∙ ap (λ (n : ℕ). let t : Three = (y.0, y.1, n) in t) c

pub are_same-true : (x y : Three) → are_same x y ≡ true → x ≡ y
are_same-true x y h =
    let parts = and_parts (x.0 == y.0 && x.1 == y.1) (x.2 == y.2) h in
    let front = and_parts (x.0 == y.0) (x.1 == y.1) parts.0 in
    same_three x y (eqb-true x.0 y.0 front.0) (eqb-true x.1 y.1 front.1) (eqb-true x.2 y.2 parts.1)

pub are_same-laws : IsEquivalence are_same
are_same-laws = and_equiv (and_equiv (on_equiv (λ (t : Three). t.0) nat_eq_equiv) (on_equiv (λ (t : Three). t.1) nat_eq_equiv)) (on_equiv (λ (t : Three). t.2) nat_eq_equiv)

pub same_at_equal : (x y : Three) → are_same x y ≡ eq_by_cmp by_three x y
same_at_equal x y = elim (cases_order x.0 y.0) [
  | inl a ↦ elim (cases_order x.1 y.1) [
    | inl b ↦ elim (cases_order x.2 y.2) [
      | inl c ↦ rw (cmp_equal x.0 y.0 a, cmp_equal x.1 y.1 b, cmp_equal x.2 y.2 c, eq-eqb x.0 y.0 a, eq-eqb x.1 y.1 b, eq-eqb x.2 y.2 c)
      | inr (inl c) ↦ rw (cmp_equal x.0 y.0 a, cmp_equal x.1 y.1 b, cmp_less x.2 y.2 c, eq-eqb x.0 y.0 a, eq-eqb x.1 y.1 b, ne_eqb x.2 y.2 (λ e. omega (arith, c, e)))
      | inr (inr c) ↦ rw (cmp_equal x.0 y.0 a, cmp_equal x.1 y.1 b, cmp_greater x.2 y.2 c, eq-eqb x.0 y.0 a, eq-eqb x.1 y.1 b, ne_eqb x.2 y.2 (λ e. omega (arith, c, e)))
    ]
    | inr (inl b) ↦ rw (cmp_equal x.0 y.0 a, cmp_less x.1 y.1 b, eq-eqb x.0 y.0 a, ne_eqb x.1 y.1 (λ e. omega (arith, b, e)))
    | inr (inr b) ↦ rw (cmp_equal x.0 y.0 a, cmp_greater x.1 y.1 b, eq-eqb x.0 y.0 a, ne_eqb x.1 y.1 (λ e. omega (arith, b, e)))
  ]
  | inr (inl a) ↦ rw (cmp_less x.0 y.0 a, ne_eqb x.0 y.0 (λ e. omega (arith, a, e)))
  | inr (inr a) ↦ rw (cmp_greater x.0 y.0 a, ne_eqb x.0 y.0 (λ e. omega (arith, a, e)))
]

pub strictly_sorted : (keys : List Three) → IsSorted by_three keys → IsStrictlySortedBy by_three (dedup are_same keys)
strictly_sorted keys sorted = IsStrictlySortedBy-dedup by_three_total same_at_equal keys sorted

-- ## Which sections they are

any_in : {X : Type 0} (p : X → Bool) (xs ys : List X) → ((x : X) → Contains xs x → Contains ys x) → list_any p xs ≡ true → list_any p ys ≡ true
any_in p xs ys all some =
    let (k, x, within, is, passes) = Any-from_list_any p xs some in
    let (j, inside, there) = all x (k, within, is) in
    list_any-from_Any p ys (j, x, inside, there, passes)

same_if_both : (a b : Bool) → (a ≡ true → b ≡ true) → (b ≡ true → a ≡ true) → a ≡ b
same_if_both true b f g = sym (f refl)
same_if_both false true f g = absurd (both_ways false refl (g refl))
same_if_both false false f g = refl

pub any-map : {X : Type 0} (f : X → ℕ) (position : ℕ) (xs : List X) → is_one_of (map f xs) position ≡ list_any (λ x. f x == position) xs
any-map f position [] = refl
any-map f position (x ∷ xs) = ap (λ (b : Bool). f x == position || b) (any-map f position xs)

pub own_position : (o : Option ImageSection) (position : ℕ) → (key_at o position).2 ≡ position
own_position None position = refl
own_position (Some s) position = refl

any_key : (image : Image) (position : ℕ) (moved : List ℕ) → list_any (λ (k : Three). k.2 == position) (map (old_key image) moved) ≡ is_one_of moved position
any_key image position [] = refl
any_key image position (p ∷ moved) =
    ap (λ (q : ℕ). q == position || list_any (λ (k : Three). k.2 == position) (map (old_key image) moved)) (own_position (slice_get image.sections p) p)
    ∙ ap (λ (b : Bool). p == position || b) (any_key image position moved)

-- the positions that are left are those that were given
pub same_positions : (image : Image) (moved : List ℕ) (sorted : List Three) (position : ℕ) → IsPermutation (map (old_key image) moved) sorted
    → is_one_of (map (λ (k : Three). k.2) (dedup are_same sorted)) position ≡ is_one_of moved position
same_positions image moved sorted position same =
    let test : Three → Bool = λ k. k.2 == position in
    any-map (λ (k : Three). k.2) position (dedup are_same sorted)
    ∙ same_if_both (list_any test (dedup are_same sorted)) (list_any test sorted) (any_in test (dedup are_same sorted) sorted (λ x h. Contains-from_dedup are_same sorted x h))
    (any_in test sorted (dedup are_same sorted) (λ x h. Contains-dedup are_same-laws are_same-true sorted x h))
    ∙ sym (list_any-IsPermutation test (map (old_key image) moved) sorted same)
    ∙ any_key image position moved

-- ## In order

abbrev key_in : SizedSection → Three
key_in s = (s.kept.section.sh_addr, s.kept.section.sh_size, s.kept.position)

-- the section that is ordered so
pub record IsKeyOf (r : Resized) (key : Three) : Type 0 where
  pub section : SizedSection
  pub at : slice_get (sized_sections r) key.2 ≡ Some section
  pub is : key ≡ (section.kept.section.sh_addr, section.kept.section.sh_size, section.kept.position)

sized_get : (k : ℕ) (ns : List ℕ) (ss : List ImageSection) (sizes : List ℕ) (p : ℕ) (s : ImageSection) → length ns ≡ length ss → length sizes ≡ length ss
    → slice_get ss p ≡ Some s → slice_get (sized_from (kept_from k ns ss) sizes) p ≡ Some (sized_at (k + p) (get_or ns p 0) s (get_or sizes p 0))
sized_get k ns [] sizes p s numbered sized at = absurd (omega (arith, slice_get_within [] p s at))
sized_get k [] (t ∷ ss) sizes p s numbered sized at = absurd (omega (arith, numbered))
sized_get k (n ∷ ns) (t ∷ ss) [] p s numbered sized at = absurd (omega (arith, sized))
sized_get k (n ∷ ns) (t ∷ ss) (z ∷ sizes) zero s numbered sized at =
    ap (λ (x : ImageSection). Some (sized_at k n x z)) (same_Some t s at) ∙ ap (λ (j : ℕ). Some (sized_at j n s z)) (sym (add-zero k))
sized_get k (n ∷ ns) (t ∷ ss) (z ∷ sizes) (suc p) s numbered sized at =
    let there : k + 1 + p ≡ k + suc p = omega arith in
    sized_get (k + 1) ns ss sizes p s (omega (arith, numbered)) (omega (arith, sized)) at ∙ ap (λ (j : ℕ). Some (sized_at j (get_or ns p 0) s (get_or sizes p 0))) there

module _ (r : Resized) (numbered : AreNumbered r.image) (sized : length r.sizes ≡ length r.image.sections) where
  key_there : (p : ℕ) (s : ImageSection) → slice_get r.image.sections p ≡ Some s → IsKeyOf r (old_key r.image p)
  key_there p s at =
      let z : SizedSection = sized_at (0 + p) (get_or r.image.section_numbers p 0) s (get_or r.sizes p 0) in
      let there = sized_get 0 r.image.section_numbers r.image.sections r.sizes p s numbered sized at in
      let same : 0 + p ≡ p = omega arith in
      subst (λ (o : Option ImageSection). IsKeyOf r (key_at o p)) (sym at)
      (record { section = z; at = there; is = ap (λ (n : ℕ). let t : Three = (s.sh_addr, s.sh_size, n) in t) (sym same) })

  pub key_of_section : (p : ℕ) → p < length r.image.sections → IsKeyOf r (old_key r.image p)
  key_of_section p within =
      elim (slice_get_cases r.image.sections p).1 [
        | inl found ↦ key_there p found.0 found.2
        | inr past ↦ absurd (omega (arith, past.0, within))
      ]

  keys_of_all : (moved : List ℕ) → AllByRecursion (λ p. p < length r.image.sections) moved → AllByRecursion (IsKeyOf r) (map (old_key r.image) moved)
  keys_of_all [] all = tt
  keys_of_all (p ∷ moved) (within, all) = (key_of_section p within, keys_of_all moved all)

  pub in_order : (keys : List Three) → AllByRecursion (IsKeyOf r) keys → IsStrictlySortedBy by_three keys → are_in_old_order (sections_at r (map (λ (k : Three). k.2) keys)) ≡ true
  unfolding are_in_old_order IsStrictlySortedBy
  in_order [] all sorted = refl
  in_order (k ∷ []) (a, all) sorted = ap (λ (o : Option SizedSection). are_in_old_order (cons_option o [])) a.at
  in_order (k ∷ l ∷ keys) (a, (b, all)) (first, rest) =
      let others : List SizedSection = sections_at r (map (λ (x : Three). x.2) keys) in
      let next = in_order (l ∷ keys) (b, all) rest in
      let behind : are_in_old_order (b.section ∷ others) ≡ true = ap (λ (o : Option SizedSection). are_in_old_order (cons_option o others)) (sym b.at) ∙ next in
      let less = less_means k l first.0 in
      let before : comes_before a.section b.section ≡ true =
      subst (λ (x : Three). is_less x (key_in b.section) ≡ true) a.is (subst (λ (y : Three). is_less k y ≡ true) b.is less) in
      ap (λ (o : Option SizedSection). are_in_old_order (cons_option o (cons_option (slice_get (sized_sections r) l.2) others))) a.at
      ∙ ap (λ (o : Option SizedSection). are_in_old_order (a.section ∷ cons_option o others)) b.at
      ∙ and_from (comes_before a.section b.section) (are_in_old_order (b.section ∷ others)) before behind

  pub in_old_order_there : (moved : List ℕ) (sorted : List Three) → All (λ p. p < length r.image.sections) moved → IsPermutation (map (old_key r.image) moved) sorted
      → IsSorted by_three sorted → are_in_old_order (sections_at r (map (λ (k : Three). k.2) (dedup are_same sorted))) ≡ true
  in_old_order_there moved sorted within same up =
      let keys : List Three = map (old_key r.image) moved in
      let all : All (IsKeyOf r) keys = All-from_recursion (IsKeyOf r) keys (keys_of_all moved (recursion_from_All (λ p. p < length r.image.sections) moved within)) in
      in_order (dedup are_same sorted)
      (recursion_from_All (IsKeyOf r) (dedup are_same sorted) (All-dedup are_same (IsKeyOf r) sorted (All-permutation (IsKeyOf r) keys sorted same all)))
      (strictly_sorted sorted up)

-- ## What they are ordered by

pub map_push : {A B : Type 0} (f : A → B) (xs : List A) (y : A) → map f (xs ++ y ∷ []) ≡ map f xs ++ f y ∷ []
map_push f [] y = refl
map_push f (x ∷ xs) y = ap (λ l. f x ∷ l) (map_push f xs y)

pub key_seen : (image : Image) (xs : List Section) (p : ℕ) (x : Section) → map section_model xs ≡ image.sections → p < length image.sections → x ≡ get_or xs p x
    → old_key image p ≡ (x.sh_addr, x.sh_size, p)
key_seen image xs p x are within is =
    let long : length xs ≡ length image.sections = sym (length-map xs section_model) ∙ ap length are in
    ap (λ (o : Option ImageSection). key_at o p) (seen_section image xs xs p x are are (omega arith) is)
