-- Blocks that were sorted stand in order.
use Rattle.std.proofs.Common.{◌≡◌, ℕ, ◌<◌, List, Bool, true, false, ◌&&◌, ◌||◌, sym, subst, inl, inr, get_or, arith}
use Rattle.std.specs.Prelude.{nat_lt, nat_le, ◌==◌, IsSortedByKey}
use Rattle.std.specs.Cmp.{IsTotalOrder}
use Rattle.std.specs.declared.cmp.Ordering.{Ordering}
use Rattle.std.specs.declared.cmp.Ordering.TheVariants.{Less, Equal, Greater}
use Rattle.std.specs.Ordering.{is_lt, nat_cmp, ordering_then}
use Rattle.std.proofs.lemmas.Bool.{and_from, cases_order, eq-eqb, le-leb, le-ltb, lt-ltb, ne_eqb, or_left, or_right}
use Rattle.std.proofs.lemmas.Cmp.{nat_cmp_total, on_total, then_total}
use Rattle.std.proofs.lemmas.List.Sorted.{ranks_by, sorted_far}
use Rattle.std.proofs.lemmas.Option.{get_or_from_slice_get, slice_get_within}
use Rattle.elf_layout_plan.specs.Blocks.{Block, rank}
use Rattle.elf_layout_moves.specs.BlockSteps.{AreOrdered}

-- three numbers, the first of which counts most
abbrev pub Three : Type 0
Three = ℕ × ℕ × ℕ

abbrev pub by_three : Three → Three → Ordering
by_three x y = ordering_then (ordering_then (nat_cmp x.0 y.0) (nat_cmp x.1 y.1)) (nat_cmp x.2 y.2)

pub by_three_total : IsTotalOrder by_three
by_three_total = then_total (then_total (on_total (λ (t : Three). t.0) nat_cmp_total) (on_total (λ (t : Three). t.1) nat_cmp_total)) (on_total (λ (t : Three). t.2) nat_cmp_total)

pub cmp_less : (a b : ℕ) → a < b → nat_cmp a b ≡ Less
cmp_less a b h = rw (lt-ltb a b h)

pub cmp_equal : (a b : ℕ) → a ≡ b → nat_cmp a b ≡ Equal
cmp_equal a b h = rw (le-ltb a b (omega (arith, h)), eq-eqb a b h)

pub cmp_greater : (a b : ℕ) → b < a → nat_cmp a b ≡ Greater
cmp_greater a b h = rw (le-ltb a b (omega (arith, h)), ne_eqb a b (λ same. omega (arith, same, h)))

-- ## What the order of three numbers says of tests

abbrev no_less : Three → Three → Bool
no_less x y = nat_lt x.0 y.0 || x.0 == y.0 && (nat_lt x.1 y.1 || x.1 == y.1 && nat_le x.2 y.2)

abbrev pub is_less : Three → Three → Bool
is_less x y = nat_lt x.0 y.0 || x.0 == y.0 && (nat_lt x.1 y.1 || x.1 == y.1 && nat_lt x.2 y.2)

by_first : (x y : Three) (rest : Bool) → x.0 < y.0 → (nat_lt x.0 y.0 || x.0 == y.0 && rest) ≡ true
by_first x y rest less = or_left (nat_lt x.0 y.0) (x.0 == y.0 && rest) (lt-ltb x.0 y.0 less)

pub by_rest : (a b : ℕ) (rest : Bool) → a ≡ b → rest ≡ true → (nat_lt a b || a == b && rest) ≡ true
by_rest a b rest same h = or_right (nat_lt a b) (a == b && rest) (and_from (a == b) rest (eq-eqb a b same) h)

not_later : (x y : Three) → is_lt (by_three y x) ≡ false → no_less x y ≡ true
not_later x y h = elim (cases_order x.0 y.0) [
  | inl same ↦ elim (cases_order x.1 y.1) [
    | inl also ↦ elim (cases_order x.2 y.2) [
      | inl all ↦ by_rest x.0 y.0 (nat_lt x.1 y.1 || x.1 == y.1 && nat_le x.2 y.2) same (by_rest x.1 y.1 (nat_le x.2 y.2) also (le-leb x.2 y.2 (omega (arith, all))))
      | inr (inl less) ↦ by_rest x.0 y.0 (nat_lt x.1 y.1 || x.1 == y.1 && nat_le x.2 y.2) same (by_rest x.1 y.1 (nat_le x.2 y.2) also (le-leb x.2 y.2 (omega (arith, less))))
      | inr (inr more) ↦
          let is : is_lt (by_three y x) ≡ true = rw (cmp_equal y.0 x.0 (sym same), cmp_equal y.1 x.1 (sym also), cmp_less y.2 x.2 more) in
          cc (is, h)
    ]
    | inr (inl less) ↦ by_rest x.0 y.0 (nat_lt x.1 y.1 || x.1 == y.1 && nat_le x.2 y.2) same
        (or_left (nat_lt x.1 y.1) (x.1 == y.1 && nat_le x.2 y.2) (lt-ltb x.1 y.1 less))
    | inr (inr more) ↦
        let is : is_lt (by_three y x) ≡ true = rw (cmp_equal y.0 x.0 (sym same), cmp_less y.1 x.1 more) in
        cc (is, h)
  ]
  | inr (inl less) ↦ by_first x y (nat_lt x.1 y.1 || x.1 == y.1 && nat_le x.2 y.2) less
  | inr (inr more) ↦
      let is : is_lt (by_three y x) ≡ true = rw (cmp_less y.0 x.0 more) in
      cc (is, h)
]

pub less_means : (x y : Three) → by_three x y ≡ Less → is_less x y ≡ true
less_means x y h = elim (cases_order x.0 y.0) [
  | inl same ↦ elim (cases_order x.1 y.1) [
    | inl also ↦ elim (cases_order x.2 y.2) [
      | inl all ↦
          let is : by_three x y ≡ Equal = rw (cmp_equal x.0 y.0 same, cmp_equal x.1 y.1 also, cmp_equal x.2 y.2 all) in
          cc (is, h)
      | inr (inl less) ↦ by_rest x.0 y.0 (nat_lt x.1 y.1 || x.1 == y.1 && nat_lt x.2 y.2) same (by_rest x.1 y.1 (nat_lt x.2 y.2) also (lt-ltb x.2 y.2 less))
      | inr (inr more) ↦
          let is : by_three x y ≡ Greater = rw (cmp_equal x.0 y.0 same, cmp_equal x.1 y.1 also, cmp_greater x.2 y.2 more) in
          cc (is, h)
    ]
    | inr (inl less) ↦ by_rest x.0 y.0 (nat_lt x.1 y.1 || x.1 == y.1 && nat_lt x.2 y.2) same
        (or_left (nat_lt x.1 y.1) (x.1 == y.1 && nat_lt x.2 y.2) (lt-ltb x.1 y.1 less))
    | inr (inr more) ↦
        let is : by_three x y ≡ Greater = rw (cmp_equal x.0 y.0 same, cmp_greater x.1 y.1 more) in
        cc (is, h)
  ]
  | inr (inl less) ↦ by_first x y (nat_lt x.1 y.1 || x.1 == y.1 && nat_lt x.2 y.2) less
  | inr (inr more) ↦
      let is : by_three x y ≡ Greater = rw (cmp_greater x.0 y.0 more) in
      cc (is, h)
]

-- ## Blocks

abbrev pub key_of : Block → Three
key_of b = (b.start, b.size, rank b)

pub ordered_from_sort : (blocks : List Block) → IsSortedByKey key_of by_three blocks → AreOrdered blocks
ordered_from_sort blocks sorted i j x y less at_i at_j =
    let far = sorted_far (λ (a b : Block). is_lt (by_three (key_of a) (key_of b))) (ranks_by by_three_total key_of) blocks sorted i j x (omega (arith, less)) (slice_get_within blocks j y at_j) in
    let here : get_or blocks i x ≡ x = get_or_from_slice_get blocks i x x at_i in
    let there : get_or blocks j x ≡ y = get_or_from_slice_get blocks j y x at_j in
    not_later (key_of x) (key_of y)
    (subst (λ (b : Block). is_lt (by_three (key_of y) (key_of b)) ≡ false) here (subst (λ (b : Block). is_lt (by_three (key_of b) (key_of (get_or blocks i x))) ≡ false) there far))
