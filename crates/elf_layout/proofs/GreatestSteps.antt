-- The greatest number of the elements of a list that pass a test, sought one element after another.
use Rattle.std.proofs.Common.{◌≡◌, ℕ, ◌+◌, ◌<◌, ◌≤◌, List, [], ◌∷◌, Bool, true, false, Option, Some, None, length, map, drop, get_or, zero, suc, sym, ap, ◌∙◌, arith, cond}
use Rattle.std.specs.Prelude.{filter, max, slice_get, option_map}
use Rattle.std.proofs.lemmas.List.{drop_all, get_or_default}
use Rattle.std.proofs.lemmas.Option.{slice_get-get_or, slice_get-map}
use Rattle.elf_layout_plan.specs.Added.{greatest}
use Rattle.elf_image.specs.declared.segment.Segment.{Segment}
use Rattle.elf_image.specs.ImageModel.{segment_model}
use Rattle.elf_layout.specs.Slots.{value_where}

module _ {X : Type 0} (test : X → Bool) (value : X → ℕ) where
  -- the greatest of a number and the values of the elements that pass
  abbrev pub greatest_of : ℕ → List X → ℕ
  greatest_of n xs = greatest n (map value (filter test xs))

  abbrev pub value_at : Option X → ℕ
  value_at None = 0
  value_at (Some x) = value_where test value x

  by_test : (n : ℕ) (x : X) (xs : List X) (b : Bool)
      → greatest n (map value (cond b (x ∷ filter test xs) (filter test xs)))
      ≡ greatest (max (cond b (value x) 0) n) (map value (filter test xs))
  by_test n x xs true = ap (λ (m : ℕ). greatest m (map value (filter test xs))) (omega arith)
  by_test n x xs false = ap (λ (m : ℕ). greatest m (map value (filter test xs))) (omega arith)

  -- one element more
  pub greatest_more : (n : ℕ) (xs : List X) (i : ℕ)
      → greatest_of n (drop i xs) ≡ greatest_of (max (value_at (slice_get xs i)) n) (drop (i + 1) xs)
  greatest_more n [] zero = ap (λ (m : ℕ). greatest m []) (omega arith)
  greatest_more n [] (suc i) =
      let same : n ≡ max 0 n = omega arith in
      let none : [] ≡ drop (suc i + 1) [] = sym (drop_all {X = X} (suc i + 1) [] (omega arith)) in
      same ∙ ap (λ (l : List X). greatest_of (max 0 n) l) none
  greatest_more n (x ∷ xs) zero = by_test n x xs (test x)
  greatest_more n (x ∷ xs) (suc i) =
      let next : suc i + 1 ≡ suc (i + 1) = omega arith in
      rw next (greatest_more n xs i)

  pub greatest_end : (n : ℕ) (xs : List X) (i : ℕ) → length xs ≤ i → greatest_of n (drop i xs) ≡ n
  greatest_end n xs i past = ap (λ (l : List X). greatest_of n l) (drop_all i xs past)

-- the numbers of the segment at a place
pub segment_at : (segments : List Segment) (i : ℕ) (p : Segment) → i < length segments → p ≡ get_or segments i p
    → slice_get (map segment_model segments) i ≡ Some (segment_model p)
segment_at segments i p within is =
    slice_get-map segment_model segments i ∙ ap (λ (o : Option Segment). option_map segment_model o)
    (slice_get-get_or segments i p within ∙ ap Some (sym is))

pub segment_of : (segments : List Segment) (i : ℕ) (d : Segment) → i < length segments
    → slice_get (map segment_model segments) i ≡ Some (segment_model (get_or segments i d))
segment_of segments i d within =
    segment_at segments i (get_or segments i d) within (get_or_default segments i d (get_or segments i d) within)
