-- Blocks that stand in order are one list, whichever way they were put in order.
use Rattle.std.proofs.Common.{◌≡◌, ℕ, suc, zero, ◌+◌, ◌≤◌, ◌⊎◌, List, [], ◌∷◌, Bool, true, false, refl, sym, ap, ◌∙◌, inl, inr, arith}
use Rattle.std.specs.Prelude.{Some, slice_get, nat_le, if◌then◌else◌, IsPermutation}
use Rattle.std.specs.List.{sum_by}
use Rattle.std.proofs.lemmas.Bool.{both_ways, cases_Bool, cases_lt, cases_order, le-leb, leb-true}
use Rattle.std.proofs.lemmas.List.Sorted.{sum_by-IsPermutation}
use Rattle.std.proofs.lemmas.List.Sums.{sum_by-cons}
use Rattle.elf_layout_plan.specs.Blocks.{Block, in_order, is_earlier, put_in, rank}
use Rattle.elf_layout_plan.proofs.ForCallers.ApartLists.{Each, each-more}
use Rattle.elf_layout_plan.proofs.ForCallers.ThreeNumbers.{comes_both, comes_from, comes_means, comes_on}
use Rattle.elf_layout_moves.specs.BlockSteps.{AreOrdered}

-- ## Two blocks

pub earlier_itself : (b : Block) → is_earlier b b ≡ true
earlier_itself b = comes_from b.start b.size b.start b.size (nat_le (rank b) (rank b)) (inr (refl, inr (refl, le-leb (rank b) (rank b) (omega arith))))

pub earlier_on : (a b c : Block) → is_earlier a b ≡ true → is_earlier b c ≡ true → is_earlier a c ≡ true
earlier_on a b c h k =
    comes_from a.start a.size c.start c.size (nat_le (rank a) (rank c))
    (comes_on a.start a.size b.start b.size c.start c.size _ _ _
    (λ p q. le-leb (rank a) (rank c) (omega (arith, leb-true (rank a) (rank b) p, leb-true (rank b) (rank c) q)))
    (comes_means a.start a.size b.start b.size (nat_le (rank a) (rank b)) h) (comes_means b.start b.size c.start c.size (nat_le (rank b) (rank c)) k))

-- of two blocks the first is the earlier one, or the second is
pub one_is_earlier : (a b : Block) → (is_earlier a b ≡ true) ⊎ (is_earlier b a ≡ true)
one_is_earlier a b = elim (cases_order a.start b.start) [
  | inl same ↦ elim (cases_order a.size b.size) [
    | inl also ↦ elim (cases_lt (rank b) (rank a)) [
      | inl less ↦ inr (comes_from b.start b.size a.start a.size (nat_le (rank b) (rank a)) (inr (sym same, inr (sym also, le-leb (rank b) (rank a) (omega (arith, less))))))
      | inr more ↦ inl (comes_from a.start a.size b.start b.size (nat_le (rank a) (rank b)) (inr (same, inr (also, le-leb (rank a) (rank b) more))))
    ]
    | inr (inl less) ↦ inl (comes_from a.start a.size b.start b.size (nat_le (rank a) (rank b)) (inr (same, inl less)))
    | inr (inr more) ↦ inr (comes_from b.start b.size a.start a.size (nat_le (rank b) (rank a)) (inr (sym same, inl more)))
  ]
  | inr (inl less) ↦ inl (comes_from a.start a.size b.start b.size (nat_le (rank a) (rank b)) (inl less))
  | inr (inr more) ↦ inr (comes_from b.start b.size a.start a.size (nat_le (rank b) (rank a)) (inl more))
]

earlier_back : (a b : Block) → is_earlier a b ≡ false → is_earlier b a ≡ true
earlier_back a b isnt = elim (one_is_earlier a b) [
  | inl is ↦ absurd (both_ways (is_earlier a b) isnt is)
  | inr back ↦ back
]

-- the later one of two starts no earlier
pub starts_no_later : (a b : Block) → is_earlier a b ≡ true → a.start ≤ b.start
starts_no_later a b h = elim (comes_means a.start a.size b.start b.size (nat_le (rank a) (rank b)) h) [
  | inl less ↦ omega (arith, less)
  | inr same ↦ omega (arith, same.0)
]

-- the later one of two that start together is no smaller
pub sizes_no_less : (a b : Block) → is_earlier a b ≡ true → a.start ≡ b.start → a.size ≤ b.size
sizes_no_less a b h start = elim (comes_means a.start a.size b.start b.size (nat_le (rank a) (rank b)) h) [
  | inl less ↦ absurd (omega (arith, less, start))
  | inr (same, inl less) ↦ omega (arith, less)
  | inr (same, inr also) ↦ omega (arith, also.0)
]

-- two of which each is the earlier one start together, and are alike in size and rank
pub alike : (a b : Block) → is_earlier a b ≡ true → is_earlier b a ≡ true → (a.start ≡ b.start) × (a.size ≡ b.size) × (rank a ≡ rank b)
alike a b h k =
    let (start, size, less, more) = comes_both a.start a.size b.start b.size _ _
    (comes_means a.start a.size b.start b.size (nat_le (rank a) (rank b)) h) (comes_means b.start b.size a.start a.size (nat_le (rank b) (rank a)) k) in
    (start, size, omega (arith, leb-true (rank a) (rank b) less, leb-true (rank b) (rank a) more))

-- ## Lists in order

-- each is earlier than all behind it
abbrev pub Rises : List Block → Type 0
Rises [] = Unit {0}
Rises (b ∷ bs) = Each (λ c. is_earlier b c ≡ true) bs × Rises bs

earlier_than : (b : Block) (cs : List Block) → ((j : ℕ) (c : Block) → slice_get cs j ≡ Some c → is_earlier b c ≡ true) → Each (λ c. is_earlier b c ≡ true) cs
earlier_than b [] all = tt
earlier_than b (c ∷ cs) all = (all zero c refl, earlier_than b cs (λ j x at. all (suc j) x at))

pub rises_from : (bs : List Block) → AreOrdered bs → Rises bs
rises_from [] ordered = tt
rises_from (b ∷ bs) ordered = (
  earlier_than b bs (λ j c at. ordered zero (suc j) b c (omega arith) refl at),
  rises_from bs (λ i j x y less at_i at_j. ordered (suc i) (suc j) x y (omega (arith, less)) at_i at_j),
)

pub put_here : (b c : Block) (cs : List Block) → is_earlier b c ≡ true → put_in b (c ∷ cs) ≡ b ∷ c ∷ cs
unfolding put_in
put_here b c cs is = rw is refl

pub put_on : (b c : Block) (cs : List Block) → is_earlier b c ≡ false → put_in b (c ∷ cs) ≡ c ∷ put_in b cs
unfolding put_in
put_on b c cs isnt = rw isnt refl

pub put_each : (P : Block → Type 0) (b : Block) (cs : List Block) → P b → Each P cs → Each P (put_in b cs)
unfolding put_in
put_each P b [] here all = (here, tt)
put_each P b (c ∷ cs) here (first, all) = elim (cases_Bool (is_earlier b c)) [
  | inl is ↦ rw (put_here b c cs is) (here, (first, all))
  | inr isnt ↦ rw (put_on b c cs isnt) (first, put_each P b cs here all)
]

pub put_rises : (b : Block) (cs : List Block) → Rises cs → Rises (put_in b cs)
unfolding put_in
put_rises b [] up = (tt, tt)
put_rises b (c ∷ cs) (first, up) = elim (cases_Bool (is_earlier b c)) [
  | inl is ↦ rw (put_here b c cs is)
      ((is, each-more (λ x. is_earlier c x ≡ true) (λ x. is_earlier b x ≡ true) (λ x h. earlier_on b c x is h) cs first), (first, up))
  | inr isnt ↦ rw (put_on b c cs isnt) (put_each (λ x. is_earlier c x ≡ true) b cs (earlier_back b c isnt) first, put_rises b cs up)
]

put_sum : (f : Block → ℕ) (b : Block) (cs : List Block) → sum_by f (put_in b cs) ≡ f b + sum_by f cs
unfolding put_in
put_sum f b [] = sum_by-cons f b []
put_sum f b (c ∷ cs) = elim (cases_Bool (is_earlier b c)) [
  | inl is ↦ ap (sum_by f) (put_here b c cs is) ∙ sum_by-cons f b (c ∷ cs)
  | inr isnt ↦
      let before = ap (sum_by f) (put_on b c cs isnt) ∙ sum_by-cons f c (put_in b cs) in
      let after = sum_by-cons f c cs in
      omega (arith, before, after, put_sum f b cs)
]

pub in_order_rises : (bs : List Block) → Rises (in_order bs)
unfolding in_order
in_order_rises [] = tt
in_order_rises (b ∷ bs) = put_rises b (in_order bs) (in_order_rises bs)

pub in_order_each : (P : Block → Type 0) (bs : List Block) → Each P bs → Each P (in_order bs)
unfolding in_order
in_order_each P [] all = tt
in_order_each P (b ∷ bs) (first, all) = put_each P b (in_order bs) first (in_order_each P bs all)

in_order_sum : (f : Block → ℕ) (bs : List Block) → sum_by f (in_order bs) ≡ sum_by f bs
unfolding in_order
in_order_sum f [] = refl
in_order_sum f (b ∷ bs) = put_sum f b (in_order bs) ∙ ap (λ (n : ℕ). f b + n) (in_order_sum f bs) ∙ sym (sum_by-cons f b bs)

-- ## One list

-- whether a block is no later than another one, as a number
abbrev no_later_than : Block → Block → ℕ
no_later_than b c = if is_earlier c b then 1 else 0

-- something in a list that rises is no later than a block: so is the first
some_first : (a b : Block) (cs : List Block) → Each (λ c. is_earlier a c ≡ true) cs → 1 ≤ sum_by (no_later_than b) cs → is_earlier a b ≡ true
some_first a b [] all some = absurd (omega (arith, some))
some_first a b (c ∷ cs) (first, all) some = elim (cases_Bool (is_earlier c b)) [
  | inl is ↦ earlier_on a c b first is
  | inr isnt ↦
      let none : no_later_than b c ≡ 0 = ap (λ (t : Bool). if t then 1 else 0) isnt in
      some_first a b cs all (omega (arith, some, none, sum_by-cons (no_later_than b) c cs))
]

one_there : (b : Block) (bs : List Block) → 1 ≤ sum_by (no_later_than b) (b ∷ bs)
one_there b bs =
    let here : no_later_than b b ≡ 1 = ap (λ (t : Bool). if t then 1 else 0) (earlier_itself b) in
    omega (arith, here, sum_by-cons (no_later_than b) b bs)

first_no_later : (a b : Block) (xs bs : List Block) → Rises (a ∷ xs) → ((f : Block → ℕ) → sum_by f (a ∷ xs) ≡ sum_by f (b ∷ bs)) → is_earlier a b ≡ true
first_no_later a b xs bs up same =
    some_first a b (a ∷ xs) (earlier_itself a, up.0) (omega (arith, same (no_later_than b), one_there b bs))

module _ (P : Block → Type 0) (one : (a b : Block) → P a → P b → a.start ≡ b.start → a.size ≡ b.size → rank a ≡ rank b → a ≡ b) where
  one_list : (xs bs : List Block) → Rises xs → Rises bs → Each P xs → Each P bs → ((f : Block → ℕ) → sum_by f xs ≡ sum_by f bs) → xs ≡ bs
  one_list [] [] up down all also same = refl
  one_list [] (b ∷ bs) up down all also same =
      let one_more = same (λ c. 1) ∙ sum_by-cons (λ c. 1) b bs in
      absurd (omega (arith, one_more))
  one_list (a ∷ xs) [] up down all also same =
      let one_more = sym (same (λ c. 1)) ∙ sum_by-cons (λ c. 1) a xs in
      absurd (omega (arith, one_more))
  one_list (a ∷ xs) (b ∷ bs) up down all also same =
      let (start, size, ranks) = alike a b (first_no_later a b xs bs up same) (first_no_later b a bs xs down (λ f. sym (same f))) in
      let first : a ≡ b = one a b all.0 also.0 start size ranks in
      let rest : (f : Block → ℕ) → sum_by f xs ≡ sum_by f bs = λ f.
      omega (arith, same f, sum_by-cons f a xs, sum_by-cons f b bs, ap f first) in
      ap (λ (c : Block). c ∷ xs) first ∙ ap (λ (cs : List Block). b ∷ cs) (one_list xs bs up.1 down.1 all.1 also.1 rest)

  -- what was put in order is what the order says
  pub in_order_is : (blocks sorted : List Block) → IsPermutation blocks sorted → AreOrdered sorted → Each P blocks → Each P sorted → sorted ≡ in_order blocks
  in_order_is blocks sorted same ordered all also =
      one_list sorted (in_order blocks) (rises_from sorted ordered) (in_order_rises blocks) also (in_order_each P blocks all)
      (λ f. sum_by-IsPermutation f blocks sorted same ∙ sym (in_order_sum f blocks))
