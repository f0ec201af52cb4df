-- The range of a block in the order of blocks.
use Rattle.std.proofs.Common.{◌≡◌, ℕ, zero, suc, ◌+◌, ◌-◌, ◌<◌, ◌≤◌, ◌⊎◌, List, [], ◌∷◌, ◌++◌, Bool, true, false, length, refl, sym, ap, ◌∙◌, subst, inl, inr, get_or, arith}
use Rattle.std.specs.Prelude.{Some, slice_get, nat_lt}
use Rattle.std.specs.List.Sorted.{IsNonDecreasingBy, IsPartitionPoint, IsPartitionedBy}
use Rattle.std.proofs.lemmas.Bool.{cases_eq, cases_lt, lt-ltb, ltb-true}
use Rattle.std.proofs.lemmas.List.Sorted.{IsPartitionedBy-ltb}
use Rattle.std.proofs.lemmas.Option.{get_or_from_slice_get, same_Some, slice_get-get_or, slice_get_within}
use Rattle.elf_layout_plan.specs.declared.block.Block.{Block as Ranged}
use Rattle.elf_layout_plan.specs.Blocks.{Block}
use Rattle.elf_layout_moves.specs.BlockSteps.{AreOrdered, IsRangeOf}
use Rattle.elf_layout_moves.proofs.RangeLaws.{earlier_means}

-- a later one starts no earlier
starts_later : (blocks : List Block) (i j : ℕ) (x y : Block) → AreOrdered blocks → i < j → slice_get blocks i ≡ Some x → slice_get blocks j ≡ Some y → x.start ≤ y.start
starts_later blocks i j x y ordered less at_i at_j = elim (earlier_means x y (ordered i j x y less at_i at_j)) [
  | inl before ↦ omega (arith, before)
  | inr same ↦ omega (arith, same.0)
]

-- how far behind an address blocks start doesn't fall
distances_rise : (blocks : List Block) (address : ℕ) → AreOrdered blocks → IsNonDecreasingBy (λ (b : Block). b.start - address) blocks
distances_rise blocks address ordered i j d up within = elim (cases_eq i j) [
  | inl same ↦ omega (arith, ap (λ (k : ℕ). (get_or blocks k d).start) same)
  | inr other ↦ omega (arith, starts_later blocks i j (get_or blocks i d) (get_or blocks j d) ordered (omega arith) (slice_get-get_or blocks i d (omega arith)) (slice_get-get_or blocks j d within))
]

-- a block starts less than so far behind an address
abbrev pub starts_within : ℕ → ℕ → Block → Bool
starts_within address size b = nat_lt (b.start - address) size

pub parted : (blocks : List Block) (address size : ℕ) → AreOrdered blocks → IsPartitionedBy (starts_within address size) blocks
parted blocks address size ordered = IsPartitionedBy-ltb (λ (b : Block). b.start - address) blocks size (distances_rise blocks address ordered)

module _ (blocks : List Block) (place reach : ℕ) (x : Block) (ordered : AreOrdered blocks) (at : slice_get blocks place ≡ Some x)
    (point : IsPartitionPoint (λ (b : Block). starts_within x.start x.size b ≡ true) (λ (b : Block). starts_within x.start x.size b ≡ false) blocks reach) where
  reached : (j : ℕ) (y : Block) → slice_get blocks j ≡ Some y → j < reach → starts_within x.start x.size y ≡ true
  reached j y at_j within =
      subst (λ (b : Block). starts_within x.start x.size b ≡ true) (get_or_from_slice_get blocks j y y at_j) (point.0 j y (omega arith) within)

  not_reached : (j : ℕ) (y : Block) → slice_get blocks j ≡ Some y → reach ≤ j → starts_within x.start x.size y ≡ false
  not_reached j y at_j past =
      subst (λ (b : Block). starts_within x.start x.size b ≡ false) (get_or_from_slice_get blocks j y y at_j) (point.1 j y past (slice_get_within blocks j y at_j))

  overlapped_inside : (j : ℕ) (y : Block) → place < j → slice_get blocks j ≡ Some y → j < place + (reach - place) → y.start < x.start + x.size
  overlapped_inside j y behind at_j within = omega (arith, ltb-true (y.start - x.start) x.size (reached j y at_j (omega (arith, within, behind))))

  inside_overlapped : (j : ℕ) (y : Block) → place < j → slice_get blocks j ≡ Some y → y.start < x.start + x.size → j < place + (reach - place)
  inside_overlapped j y behind at_j past =
      let later = starts_later blocks place j x y ordered behind at at_j in
      let near : starts_within x.start x.size y ≡ true = lt-ltb (y.start - x.start) x.size (omega (arith, later, past)) in
      elim (cases_lt j reach) [
        | inl within ↦ omega (arith, within, behind)
        | inr outside ↦ let far = not_reached j y at_j outside in cc (near, far)
      ]

  pub is_range : IsRangeOf blocks place x (record { start = place; size = reach - place; priority = x.priority })
  is_range = record {
    start = refl;
    priority = refl;
    reaches = λ j y behind at_j. (overlapped_inside j y behind at_j, inside_overlapped j y behind at_j);
  }

-- what a list with one more holds
pub slice_get_push : {A : Type 0} (xs : List A) (y : A) (i : ℕ) (z : A) → slice_get (xs ++ y ∷ []) i ≡ Some z → (slice_get xs i ≡ Some z) ⊎ (i ≡ length xs) × (y ≡ z)
slice_get_push [] y zero z at = inr (refl, same_Some y z at)
slice_get_push [] y (suc i) z at = absurd (omega (arith, slice_get_within [] i z at))
slice_get_push (x ∷ xs) y zero z at = inl at
slice_get_push (x ∷ xs) y (suc i) z at = elim (slice_get_push xs y i z at) [ inl before ↦ inl before | inr last ↦ inr (omega (arith, last.0), last.1) ]

-- ranges of the first blocks, and one more
pub one_range_more : (blocks : List Block) (made : List Ranged) (w : Ranged) (place : ℕ) → length made ≡ place
    → ((i : ℕ) (x : Block) (range : Ranged) → slice_get blocks i ≡ Some x → slice_get made i ≡ Some range → IsRangeOf blocks i x range)
    → ((x : Block) → slice_get blocks place ≡ Some x → IsRangeOf blocks place x w)
    → (i : ℕ) (x : Block) (range : Ranged) → slice_get blocks i ≡ Some x → slice_get (made ++ w ∷ []) i ≡ Some range → IsRangeOf blocks i x range
one_range_more blocks made w place many each next i x range at there = elim (slice_get_push made w i range there) [
  | inl before ↦ each i x range at before
  | inr last ↦
      let here : i ≡ place = last.0 ∙ many in
      subst (λ (v : Ranged). IsRangeOf blocks i x v) last.1
      (subst (λ (k : ℕ). IsRangeOf blocks k x w) (sym here) (next x (subst (λ (k : ℕ). slice_get blocks k ≡ Some x) here at)))
]
