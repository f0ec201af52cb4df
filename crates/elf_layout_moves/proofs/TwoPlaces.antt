-- Two places of a list, and two places of the same list in another order.
use Rattle.std.proofs.Common.{◌≡◌, ◌≢◌, ℕ, ◌<◌, ◌⊎◌, List, length, refl, sym, ap, ◌∙◌, subst, inl, inr, get_or, set, length-set, get_or-set_same, get_or-set_other, arith}
use Rattle.std.specs.Prelude.{IsPermutation}
use Rattle.std.specs.List.{swap}
use Rattle.std.proofs.lemmas.Bool.{cases_eq}
use Rattle.std.proofs.lemmas.List.Edits.{swap_is}
use Rattle.std.proofs.lemmas.List.Sorted.{IsPermutation-keeps}

-- a fact of the elements at any two places, in both orders
abbrev pub AtAnyTwo : {X : Type 0} → (X → X → Type 0) → List X → Type 0
AtAnyTwo {X} R xs = (m n : ℕ) (d : X) → m ≢ n → m < length xs → n < length xs → R (get_or xs m d) (get_or xs n d)

-- what stands at m after two elements changed places stood at k
record StoodAt {X : Type 0} (xs : List X) (i j m k : ℕ) (d : X) : Type 0 where
  within : k < length xs
  is : get_or (swap xs i j) m d ≡ get_or xs k d
  where_to : (m ≡ j) × (k ≡ i) ⊎ ((m ≢ j) × (m ≡ i) × (k ≡ j) ⊎ (m ≢ j) × (m ≢ i) × (k ≡ m))

module _ {X : Type 0} where
  length_swap : (xs : List X) (i j : ℕ) (d : X) → i < length xs → j < length xs → length (swap xs i j) ≡ length xs
  length_swap xs i j d p q =
      ap length (sym (swap_is xs i j d p q)) ∙ length-set (set xs i (get_or xs j d)) j (get_or xs i d) ∙ length-set xs i (get_or xs j d)

  stood_at : (xs : List X) (i j m : ℕ) (d : X) → i < length xs → j < length xs → m < length xs → (k : ℕ) × StoodAt xs i j m k d
  stood_at xs i j m d p q within =
      let first : List X = set xs i (get_or xs j d) in
      let is : get_or (set first j (get_or xs i d)) m d ≡ get_or (swap xs i j) m d = ap (λ (l : List X). get_or l m d) (swap_is xs i j d p q) in
      let long : length first ≡ length xs = length-set xs i (get_or xs j d) in
      elim (cases_eq m j) [
        | inl at_j ↦
            let here : get_or (set first j (get_or xs i d)) j d ≡ get_or xs i d = get_or-set_same first j (get_or xs i d) d (omega arith) in
            (i, record { within = p; is = sym is ∙ ap (λ (k : ℕ). get_or (set first j (get_or xs i d)) k d) at_j ∙ here; where_to = inl (at_j, refl) })
        | inr not_j ↦
            let there : get_or (set first j (get_or xs i d)) m d ≡ get_or first m d = get_or-set_other first j m (get_or xs i d) d not_j in
            elim (cases_eq m i) [
              | inl at_i ↦
                  let here : get_or first i d ≡ get_or xs j d = get_or-set_same xs i (get_or xs j d) d p in
                  (j, record { within = q; is = sym is ∙ there ∙ ap (λ (k : ℕ). get_or first k d) at_i ∙ here; where_to = inr (inl (not_j, at_i, refl)) })
              | inr not_i ↦
                  let here : get_or first m d ≡ get_or xs m d = get_or-set_other xs i m (get_or xs j d) d not_i in
                  (m, record { within = within; is = sym is ∙ there ∙ here; where_to = inr (inr (not_j, not_i, refl)) })
            ]
      ]

  -- two places come from two
  stood_apart : (xs : List X) (i j m n k l : ℕ) (d : X) → m ≢ n → StoodAt xs i j m k d → StoodAt xs i j n l d → k ≢ l
  stood_apart xs i j m n k l d apart a b =
      elim a.where_to [
        | inl x ↦ elim b.where_to [ inl y ↦ absurd (apart (x.0 ∙ sym y.0)) | inr (inl y) ↦ λ same. absurd (omega (arith, same, x.0, x.1, y.0, y.1, y.2, apart)) | inr (inr y) ↦ λ same. y.1 (sym y.2 ∙ sym same ∙ x.1) ]
        | inr (inl x) ↦ elim b.where_to [ inl y ↦ λ same. absurd (omega (arith, same, x.0, x.1, x.2, y.0, y.1, apart)) | inr (inl y) ↦ absurd (apart (x.1 ∙ sym y.1)) | inr (inr y) ↦ λ same. y.0 (sym y.2 ∙ sym same ∙ x.2) ]
        | inr (inr x) ↦ elim b.where_to [ inl y ↦ λ same. x.1 (sym x.2 ∙ same ∙ y.1) | inr (inl y) ↦ λ same. x.0 (sym x.2 ∙ same ∙ y.2) | inr (inr y) ↦ λ same. apart (sym x.2 ∙ same ∙ y.2) ]
      ]

  swapped_too : (R : X → X → Type 0) (xs : List X) (i j : ℕ) → i < length xs → j < length xs → AtAnyTwo R xs → AtAnyTwo R (swap xs i j)
  swapped_too R xs i j p q all = λ m n d apart within_m within_n.
      let long = length_swap xs i j d p q in
      let a = stood_at xs i j m d p q (omega arith) in
      let b = stood_at xs i j n d p q (omega arith) in
      subst (λ (x : X). R x (get_or (swap xs i j) n d)) (sym a.1.is)
      (subst (λ (y : X). R (get_or xs a.0 d) y) (sym b.1.is)
      (all a.0 b.0 d (stood_apart xs i j m n a.0 b.0 d apart a.1 b.1) a.1.within b.1.within))

  -- what holds at any two places holds in any order of the list
  pub at_any_two-IsPermutation : (R : X → X → Type 0) (xs ys : List X) → IsPermutation xs ys → AtAnyTwo R xs → AtAnyTwo R ys
  at_any_two-IsPermutation R xs ys same all =
      IsPermutation-keeps xs (AtAnyTwo R) all (λ l i j p q h. swapped_too R l i j p q h) ys same
