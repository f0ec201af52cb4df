-- What is known of the pairs of a list of blocks while each of them is looked at in turn.
use Rattle.std.proofs.Common.{◌≡◌, ◌↔◌, ℕ, ◌+◌, ◌<◌, ◌≤◌, List, Bool, IsTrue, false, true, Some, length, sym, ap, ◌∙◌, subst, inl, inr, arith}
use Rattle.std.specs.Prelude.{slice_get}
use Rattle.std.proofs.lemmas.Bool.{cases_eq, cases_lt}
use Rattle.std.proofs.lemmas.Option.{same_Some, slice_get_within}
use Rattle.elf_layout_plan.specs.declared.block.Block.{Block}
use Rattle.elf_layout_plan.specs.MovedBlocks.{IsApart, Overlap, Pair, StayApart, end_of}

-- a fact of each pair whose first block stands before a place
abbrev pub Below : (blocks : List Block) → (Pair blocks → Type 0) → ℕ → Type 0
Below blocks P i = (p : Pair blocks) → p.first < i → P p

-- a fact of each pair whose first block stands before a place, and of each pair of the block there and one before a second place
pub record Within (blocks : List Block) (P : Pair blocks → Type 0) (i j : ℕ) : Type 0 where
  pub rows : Below blocks P i
  pub row : (p : Pair blocks) → p.first ≡ i → p.second < j → P p

pub none_yet : (blocks : List Block) (P : Pair blocks → Type 0) → Below blocks P 0
none_yet blocks P = λ p early. absurd (omega (arith, early))

pub row_more : (blocks : List Block) (P : Pair blocks → Type 0) (i j : ℕ) → Within blocks P i j
    → ((p : Pair blocks) → p.first ≡ i → p.second ≡ j → P p) → Within blocks P i (j + 1)
row_more blocks P i j w here = record {
  rows = w.rows;
  row = λ p same early. elim (cases_eq p.second j) [ inl at ↦ here p same at | inr other ↦ w.row p same (omega arith) ];
}

pub row_ends : (blocks : List Block) (P : Pair blocks → Type 0) (i j : ℕ) → Within blocks P i j → length blocks ≤ j → Below blocks P (i + 1)
row_ends blocks P i j w all = λ p early. elim (cases_eq p.first i) [
  | inl same ↦ w.row p same (omega (arith, slice_get_within blocks p.second p.later p.at_second))
  | inr other ↦ w.rows p (omega arith)
]

pub all_pairs : (blocks : List Block) (P : Pair blocks → Type 0) (i : ℕ) → Below blocks P i → length blocks ≤ i → (p : Pair blocks) → P p
all_pairs blocks P i below all = λ p. below p (omega (arith, p.ordered, slice_get_within blocks p.second p.later p.at_second))

-- what holds of two blocks of the list holds of the pair at their places
pub at_pair : (blocks : List Block) (Q : Block → Block → Type 0) (i j : ℕ) (a b : Block) → slice_get blocks i ≡ Some a → slice_get blocks j ≡ Some b
    → Q a b → (p : Pair blocks) → p.first ≡ i → p.second ≡ j → Q p.earlier p.later
at_pair blocks Q i j a b at_i at_j holds = λ p first second.
    let here : slice_get blocks i ≡ Some p.earlier = subst (λ (k : ℕ). slice_get blocks k ≡ Some p.earlier) first p.at_first in
    let there : slice_get blocks j ≡ Some p.later = subst (λ (k : ℕ). slice_get blocks k ≡ Some p.later) second p.at_second in
    subst (λ (y : Block). Q p.earlier y) (same_Some b p.later (sym at_j ∙ there))
    (subst (λ (x : Block). Q x b) (same_Some a p.earlier (sym at_i ∙ here)) holds)

-- two blocks at their places
abbrev pub pair_of : (blocks : List Block) (i j : ℕ) (a b : Block) → i < j → slice_get blocks i ≡ Some a → slice_get blocks j ≡ Some b → Pair blocks
pair_of blocks i j a b ordered at_i at_j = record { first = i; second = j; earlier = a; later = b; ordered = ordered; at_first = at_i; at_second = at_j }

-- ## A test of two blocks, which tells what is asked of them

module _ (blocks : List Block) (Q : Block → Block → Type 0) (i j : ℕ) (a b : Block) (yes : Bool)
    (at_i : slice_get blocks i ≡ Some a) (at_j : slice_get blocks j ≡ Some b) (told : IsTrue yes ↔ Q a b) where
  pub not_each : i < j → yes ≡ false → ((p : Pair blocks) → Q p.earlier p.later) → IsTrue false
  not_each ordered isnt each = sym isnt ∙ told.1 (each (pair_of blocks i j a b ordered at_i at_j))

  pub some_pair : i < j → yes ≡ true → (p : Pair blocks) × Q p.earlier p.later
  some_pair ordered is = (pair_of blocks i j a b ordered at_i at_j, told.0 is)

  pub each_so_far : yes ≡ true → Within blocks (λ p. Q p.earlier p.later) i j → Within blocks (λ p. Q p.earlier p.later) i (j + 1)
  each_so_far is w = row_more blocks (λ p. Q p.earlier p.later) i j w (at_pair blocks Q i j a b at_i at_j (told.0 is))

  -- what the test asks isn't so of these two blocks
  not_these : yes ≡ false → Q a b → ⊥
  not_these isnt q =
      let is : yes ≡ true = told.1 q in
      cc (isnt, is)

  pub not_here : yes ≡ false → (p : Pair blocks) → p.first ≡ i → p.second ≡ j → Q p.earlier p.later → ⊥
  not_here isnt = at_pair blocks (λ x y. Q x y → ⊥) i j a b at_i at_j (not_these isnt)

  pub none_so_far : yes ≡ false → Within blocks (λ p. Q p.earlier p.later → ⊥) i j → Within blocks (λ p. Q p.earlier p.later → ⊥) i (j + 1)
  none_so_far isnt w = row_more blocks (λ p. Q p.earlier p.later → ⊥) i j w (not_here isnt)

-- ## A test of two blocks and of whether they move

-- what doesn't overlap is apart
apart : (a b : Block) → (Overlap a b → ⊥) → IsApart a b
apart a b none = elim (cases_lt b.start (end_of a)) [ inl over ↦ absurd (none over) | inr ends ↦ ends ]

module _ (blocks : List Block) (moves : List Bool) (i j : ℕ) (a b : Block) (m n yes : Bool)
    (at_i : slice_get blocks i ≡ Some a) (at_j : slice_get blocks j ≡ Some b)
    (moves_i : slice_get moves i ≡ Some m) (moves_j : slice_get moves j ≡ Some n)
    (told : IsTrue yes ↔ ((m ≡ false) × (n ≡ false) × Overlap a b)) where
  pub not_apart : i < j → yes ≡ true → StayApart blocks moves → IsTrue false
  not_apart ordered is each =
      let all = told.0 is in
      let ends = each (pair_of blocks i j a b ordered at_i at_j) (moves_i ∙ ap Some all.0) (moves_j ∙ ap Some all.1) in
      absurd (omega (arith, ends, all.2))

  pub apart_here : yes ≡ false → (p : Pair blocks) → p.first ≡ i → p.second ≡ j → slice_get moves p.first ≡ Some false
      → slice_get moves p.second ≡ Some false → IsApart p.earlier p.later
  apart_here isnt = λ p first second free_first free_second.
      let one : m ≡ false = same_Some m false (sym moves_i ∙ subst (λ (k : ℕ). slice_get moves k ≡ Some false) first free_first) in
      let other : n ≡ false = same_Some n false (sym moves_j ∙ subst (λ (k : ℕ). slice_get moves k ≡ Some false) second free_second) in
      at_pair blocks (λ x y. IsApart x y) i j a b at_i at_j
      (apart a b (λ over. let is : yes ≡ true = told.1 (one, other, over) in cc (isnt, is))) p first second
