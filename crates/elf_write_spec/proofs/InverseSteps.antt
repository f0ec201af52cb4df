-- The inverse of an order, position by position.
use Rattle.std.proofs.Common.{◌≡◌, ◌≢◌, ℕ, ◌+◌, ◌<◌, false, eqb, List, length, get_or, set, sym, ap, ◌∙◌, subst, inl, inr, arith}
use Rattle.std.specs.Prelude.{All}
use Rattle.std.specs.List.{Contains, IsDistinct}
use Rattle.std.specs.List.Sorted.{IsPermutation}
use Rattle.std.proofs.lemmas.Bool.{cases_lt, eq-eqb, false≢true, ne_eqb}
use Rattle.std.proofs.lemmas.List.{get_or-set_other, get_or-set_same, get_or_default}
use Rattle.std.proofs.lemmas.List.Elements.{Contains-get_or}
use Rattle.std.proofs.lemmas.List.Sorted.{All-permutation, Contains-permutation}
use Rattle.std.proofs.lemmas.Map.Keys.{IsDistinct-IsPermutation, IsDistinct-from_apart, apart_from_distinct}
use Rattle.elf_format.specs.Image.{counted}
use Rattle.elf_format.proofs.ForCallers.Lengths.{length-counted, slice_index-counted}
use Rattle.elf_write_spec.specs.Inverse.{IsInverse}

-- the numbers below a number differ
apart-counted : (n i j d : ℕ) → i < j → j < length (counted n) → eqb (get_or (counted n) i d) (get_or (counted n) j d) ≡ false
apart-counted n i j d less inside =
    let below : j < n = omega (arith, inside, length-counted n) in
    let at_i : get_or (counted n) i d ≡ i = get_or_default (counted n) i d 0 (omega (arith, less, inside)) ∙ slice_index-counted n i (omega (arith, less, below)) in
    let at_j : get_or (counted n) j d ≡ j = get_or_default (counted n) j d 0 inside ∙ slice_index-counted n j below in
    ne_eqb (get_or (counted n) i d) (get_or (counted n) j d) (λ e. let same : i ≡ j = sym at_i ∙ e ∙ at_j in omega (arith, same, less))

flips : (x y : ℕ) → eqb x y ≡ eqb y x
flips x y = grind arith

module _ (order : List ℕ) (once : IsPermutation (counted (length order)) order) where
  -- each position of the order is that of a symbol
  pub inside : (i : ℕ) → i < length order → get_or order i 0 < length order
  inside i less =
      let Below : ℕ → Type 0 = λ x. x < length order in
      let all : All Below (counted (length order)) =
      λ k d there. let at : get_or (counted (length order)) k d ≡ k = get_or_default (counted (length order)) k d 0 there ∙ slice_index-counted (length order) k (omega (arith, there, length-counted (length order))) in
      subst Below (sym at) (omega (arith, there, length-counted (length order))) in
      All-permutation Below (counted (length order)) order once all i 0 less

  -- no symbol stands there twice
  apart : (i j : ℕ) → i < j → j < length order → get_or order i 0 ≢ get_or order j 0
  apart i j less there e =
      let distinct : IsDistinct eqb order =
      IsDistinct-IsPermutation eqb flips (counted (length order)) order once (IsDistinct-from_apart eqb (counted (length order)) (λ a b d. apart-counted (length order) a b d)) in
      false≢true (sym (apart_from_distinct eqb order i j 0 distinct less there) ∙ eq-eqb (get_or order i 0) (get_or order j 0) e)

  -- one position more
  pub invert-more : (numbers new : List ℕ) (i : ℕ) → i < length order → length numbers ≡ length order → ((k : ℕ) → k < i → get_or numbers (get_or order k 0) 0 ≡ k)
      → new ≡ set numbers (get_or order i 0) i → (k : ℕ) → k < i + 1 → get_or new (get_or order k 0) 0 ≡ k
  invert-more numbers new i less long before is k below = elim (cases_lt k i) [
    | inl earlier ↦
        ap (λ (l : List ℕ). get_or l (get_or order k 0) 0) is
        ∙ get_or-set_other numbers (get_or order i 0) (get_or order k 0) i 0 (apart k i earlier less) ∙ before k earlier
    | inr last ↦
        let same : k ≡ i = omega (arith, last, below) in
        ap (λ (n : ℕ). get_or new (get_or order n 0) 0) same ∙ ap (λ (l : List ℕ). get_or l (get_or order i 0) 0) is
        ∙ get_or-set_same numbers (get_or order i 0) i 0 (omega (arith, inside i less, long)) ∙ sym same
  ]

  -- all positions
  pub invert-all : (numbers : List ℕ) → length numbers ≡ length order → ((k : ℕ) → k < length order → get_or numbers (get_or order k 0) 0 ≡ k) → IsInverse order numbers
  invert-all numbers long from_new =
      record {
        long = long;
        inside = λ old less. (at old less).0;
        from_old = λ old less. (at old less).1;
        from_new = from_new;
      }
    where
      -- where a symbol stands in the order
      at : (old : ℕ) → old < length order → (get_or numbers old 0 < length order) × (get_or order (get_or numbers old 0) 0 ≡ old)
      at old less =
          let n : ℕ = length order in
          let listed : Contains (counted n) old =
          subst (Contains (counted n)) (slice_index-counted n old less) (Contains-get_or (counted n) old 0 (omega (arith, less, length-counted n))) in
          let found : Contains order old = Contains-permutation (counted n) order old once listed in
          let there : get_or order found.0 0 ≡ old = get_or_default order found.0 0 old found.1 ∙ found.2 in
          let number : get_or numbers old 0 ≡ found.0 = ap (λ (p : ℕ). get_or numbers p 0) (sym there) ∙ from_new found.0 found.1 in
          (subst (λ (p : ℕ). p < length order) (sym number) found.1, ap (λ (p : ℕ). get_or order p 0) number ∙ there)
