-- One block among others: what holds of both, and how it is put in order.
use Rattle.std.proofs.Common.{◌≡◌, ℕ, List, [], ◌∷◌, ◌++◌, Bool, true, false, not, ◌||◌, refl, sym, ap, ◌∙◌, inl, inr}
use Rattle.std.specs.Prelude.{None, Option, Some, filter, if◌then◌else◌, ◌==◌}
use Rattle.std.specs.List.{cons_option, filter_map, list_any}
use Rattle.std.proofs.lemmas.Bool.{both_ways, cases_Bool, or_from, or_parts}
use Rattle.elf_format.specs.Options.{is_one_of, is_some_and}
use Rattle.elf_layout_plan.specs.Blocks.{Block, in_order, is_block_of, is_earlier, put_in, some_two}
use Rattle.elf_layout_plan.proofs.ForCallers.ApartLists.{Each}
use Rattle.elf_layout_moves.proofs.OneOrder.{earlier_on, one_is_earlier, put_here, put_on}

either_way : (a b c : Bool) → (a || (b || c)) ≡ (b || (a || c))
either_way true true c = refl
either_way true false c = refl
either_way false b c = refl

swap_four : (a b c d : Bool) → ((a || b) || (c || d)) ≡ ((a || c) || (b || d))
swap_four true b c d = refl
swap_four false true true d = refl
swap_four false true false d = refl
swap_four false false c d = refl

or_swap : (a b : Bool) → (a || b) ≡ (b || a)
or_swap true true = refl
or_swap true false = refl
or_swap false true = refl
or_swap false false = refl

-- ## Tests of lists

module _ (test : Block → Bool) where
  pub any-with : (front back : List Block) (t : Block) → list_any test (front ++ t ∷ back) ≡ (test t || list_any test (front ++ back))
  any-with [] back t = refl
  any-with (h ∷ front) back t = ap (λ (b : Bool). test h || b) (any-with front back t) ∙ either_way (test h) (test t) (list_any test (front ++ back))

  any-put : (b : Block) (cs : List Block) → list_any test (put_in b cs) ≡ (test b || list_any test cs)
  unfolding put_in
  any-put b [] = refl
  any-put b (c ∷ cs) = elim (cases_Bool (is_earlier b c)) [
    | inl is ↦ ap (list_any test) (put_here b c cs is)
    | inr isnt ↦ ap (list_any test) (put_on b c cs isnt) ∙ ap (λ (t : Bool). test c || t) (any-put b cs) ∙ either_way (test c) (test b) (list_any test cs)
  ]

  pub any-in_order : (bs : List Block) → list_any test (in_order bs) ≡ list_any test bs
  unfolding in_order
  any-in_order [] = refl
  any-in_order (b ∷ bs) = any-put b (in_order bs) ∙ ap (λ (t : Bool). test b || t) (any-in_order bs)

  parted : (x y z : Bool) → (x || (y || z)) ≡ ((x || y) || z)
  parted true y z = refl
  parted false y z = refl

  any-one_parted : (b : Block) (outs ins : List Block) (o : Bool) → (test b || (list_any test outs || list_any test ins))
      ≡ (list_any test (if o then b ∷ outs else outs) || list_any test (if not o then b ∷ ins else ins))
  any-one_parted b outs ins true = parted (test b) (list_any test outs) (list_any test ins)
  any-one_parted b outs ins false = either_way (test b) (list_any test outs) (list_any test ins)

  -- what passes another test, and what doesn't
  pub any-parted : (out : Block → Bool) (bs : List Block) → list_any test bs ≡ (list_any test (filter out bs) || list_any test (filter (λ b. not (out b)) bs))
  any-parted out [] = refl
  any-parted out (b ∷ bs) = ap (λ (t : Bool). test b || t) (any-parted out bs) ∙ any-one_parted b (filter out bs) (filter (λ c. not (out c)) bs) (out b)

  pub filter-with : (front back : List Block) (t : Block) → test t ≡ true → filter test (front ++ t ∷ back) ≡ filter test front ++ t ∷ filter test back
  filter-with [] back t is = ap (λ (b : Bool). if b then t ∷ filter test back else filter test back) is
  filter-with (h ∷ front) back t is = by_test (test h) (filter-with front back t is)
    where
      by_test : (b : Bool) → filter test (front ++ t ∷ back) ≡ filter test front ++ t ∷ filter test back
          → (if b then h ∷ filter test (front ++ t ∷ back) else filter test (front ++ t ∷ back)) ≡ (if b then h ∷ filter test front else filter test front) ++ t ∷ filter test back
      by_test true same = ap (λ (l : List Block). h ∷ l) same
      by_test false same = same

  pub filter-without : (front back : List Block) (t : Block) → test t ≡ false → filter test (front ++ t ∷ back) ≡ filter test (front ++ back)
  filter-without [] back t isnt = ap (λ (b : Bool). if b then t ∷ filter test back else filter test back) isnt
  filter-without (h ∷ front) back t isnt = ap (λ (l : List Block). if test h then h ∷ l else l) (filter-without front back t isnt)

pub each-without : (P : Block → Type 0) (front back : List Block) (t : Block) → Each P (front ++ t ∷ back) → Each P (front ++ back)
each-without P [] back t all = all.1
each-without P (h ∷ front) back t all = (all.0, each-without P front back t all.1)

pub each-any_none : (test : Block → Bool) (bs : List Block) → list_any test bs ≡ false → Each (λ b. test b ≡ false) bs
each-any_none test [] none = tt
each-any_none test (b ∷ bs) none = let parts = or_parts (test b) (list_any test bs) none in (parts.0, each-any_none test bs parts.1)

pub none-each : (test : Block → Bool) (bs : List Block) → Each (λ b. test b ≡ false) bs → list_any test bs ≡ false
none-each test [] all = refl
none-each test (b ∷ bs) all = or_from (test b) (list_any test bs) all.0 (none-each test bs all.1)

-- a test of two blocks, of which one may be this one
pub some_two-with : (test : Block → Block → Bool) (front back : List Block) (t : Block)
    → some_two test (front ++ t ∷ back) ≡ (list_any (λ c. test t c || test c t) (front ++ back) || some_two test (front ++ back))
unfolding some_two
some_two-with test [] back t = refl
some_two-with test (h ∷ front) back t =
    ap (λ (b : Bool). b || some_two test (front ++ t ∷ back)) (any-with (λ c. test h c || test c h) front back t ∙ ap (λ (b : Bool). b || list_any (λ c. test h c || test c h) (front ++ back)) (or_swap (test h t) (test t h)))
    ∙ ap (λ (b : Bool). ((test t h || test h t) || list_any (λ c. test h c || test c h) (front ++ back)) || b) (some_two-with test front back t)
    ∙ swap_four (test t h || test h t) (list_any (λ c. test h c || test c h) (front ++ back)) (list_any (λ c. test t c || test c t) (front ++ back)) (some_two test (front ++ back))

-- ## Sections

-- the sections of blocks have a position where one of the blocks is of the section there
pub section-of : (position : ℕ) (bs : List Block) → is_one_of (filter_map (λ b. b.section) bs) position ≡ list_any (is_block_of position) bs
section-of position [] = refl
section-of position (b ∷ bs) = by_section b.section ∙ ap (λ (t : Bool). is_block_of position b || t) (section-of position bs)
  where
    by_section : (o : Option ℕ) → is_one_of (cons_option o (filter_map (λ (c : Block). c.section) bs)) position ≡ (is_some_and (λ p. p == position) o || is_one_of (filter_map (λ (c : Block). c.section) bs) position)
    by_section (Some p) = refl
    by_section None = refl

-- ## The order

put_twice : (a t : Block) → is_earlier a t ≡ true → is_earlier t a ≡ false → (bs : List Block) → put_in a (put_in t bs) ≡ put_in t (put_in a bs)
unfolding put_in
put_twice a t first isnt [] = put_here a t [] first ∙ sym (put_on t a [] isnt)
put_twice a t first isnt (c ∷ bs) = elim (cases_Bool (is_earlier t c)) [
  | inl before ↦
      let also : is_earlier a c ≡ true = earlier_on a t c first before in
      ap (put_in a) (put_here t c bs before) ∙ put_here a t (c ∷ bs) first
      ∙ sym (ap (put_in t) (put_here a c bs also) ∙ put_on t a (c ∷ bs) isnt ∙ ap (λ (l : List Block). a ∷ l) (put_here t c bs before))
  | inr behind ↦ elim (cases_Bool (is_earlier a c)) [
    | inl also ↦
        ap (put_in a) (put_on t c bs behind) ∙ put_here a c (put_in t bs) also
        ∙ sym (ap (put_in t) (put_here a c bs also) ∙ put_on t a (c ∷ bs) isnt ∙ ap (λ (l : List Block). a ∷ l) (put_on t c bs behind))
    | inr not_also ↦
        ap (put_in a) (put_on t c bs behind) ∙ put_on a c (put_in t bs) not_also
        ∙ ap (λ (l : List Block). c ∷ l) (put_twice a t first isnt bs)
        ∙ sym (ap (put_in t) (put_on a c bs not_also) ∙ put_on t c (put_in a bs) behind)
  ]
]

-- two that are told apart, put into a list one after the other
put_both : (a t : Block) → (is_earlier a t ≡ true → is_earlier t a ≡ true → a ≡ t) → (bs : List Block) → put_in a (put_in t bs) ≡ put_in t (put_in a bs)
put_both a t told bs = elim (cases_Bool (is_earlier a t)) [
  | inl first ↦ elim (cases_Bool (is_earlier t a)) [
    | inl also ↦
        let same : a ≡ t = told first also in
        ap (λ (x : Block). put_in x (put_in t bs)) same ∙ sym (ap (λ (x : Block). put_in t (put_in x bs)) same)
    | inr isnt ↦ put_twice a t first isnt bs
  ]
  | inr later ↦ elim (cases_Bool (is_earlier t a)) [
    | inl first ↦ sym (put_twice t a first later bs)
    | inr neither ↦ elim (one_is_earlier a t) [
      | inl is ↦ absurd (both_ways (is_earlier a t) later is)
      | inr is ↦ absurd (both_ways (is_earlier t a) neither is)
    ]
  ]
]

-- the order of blocks is that of the others, with one more put in
pub in_order-with : (front back : List Block) (t : Block) → Each (λ h. is_earlier h t ≡ true → is_earlier t h ≡ true → h ≡ t) front
    → in_order (front ++ t ∷ back) ≡ put_in t (in_order (front ++ back))
unfolding in_order
in_order-with [] back t all = refl
in_order-with (h ∷ front) back t (told, all) = ap (put_in h) (in_order-with front back t all) ∙ put_both h t told (in_order (front ++ back))
