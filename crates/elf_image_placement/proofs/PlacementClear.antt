-- Which place of places in order can lie inside a section's addresses: only the first one behind its start.
use Rattle.std.proofs.Common.{◌≡◌, ◌≢◌, ◌≤◌, ◌<◌, ℕ, ◌+◌, Bool, true, false, leb, ltb, List, [], ◌∷◌, length, get_or, map, refl, sym, ap, ◌∙◌, inl, inr, arith}
use Rattle.std.specs.Prelude.{◌&&◌, ◌||◌, not}
use Rattle.std.specs.List.{list_all, list_any}
use Rattle.std.specs.List.Sorted.{IsNonDecreasing, IsPartitionPoint}
use Rattle.std.proofs.lemmas.Bool.{and_from, and_left, and_right, cases_Bool, cases_lt, le-ltb, leb-false, leb-true, lt-ltb, not_from_false, not_from_true}
use Rattle.std.proofs.lemmas.List.{get_or_default}
use Rattle.std.proofs.lemmas.List.Folds.{list_all-map, list_all_at}
use Rattle.std.proofs.lemmas.List.Sorted.{list_any-IsPermutation}
use Rattle.std.proofs.lemmas.List.Sums.{list_all-from_AllPass}
use Rattle.elf_image_rules.specs.File.{loads_of}
use Rattle.elf_image_rules.specs.Placement.{crosses_file_end, file_end, is_uninitialized, uninitialized_clear}
use Rattle.elf_image_rules.specs.Places.{Place, place_of, places_of}
use Rattle.elf_image_placement.specs.PlacementSteps.{AreEndsInOrder, is_clear_if_uninitialized, lies_inside}
use Rattle.elf_image_rules.specs.SectionHeader.{SectionHeader}
use Rattle.elf_image_rules.specs.SegmentHeader.{SegmentHeader}
use Rattle.elf_image_placement.proofs.PlacementHeld.{all_if_picked}

-- ## Places in order

not_inside_before : (s : Place) (e : ℕ) → e ≤ s.sh_addr → not (lies_inside s e) ≡ true
not_inside_before s e before = not_from_false (lies_inside s e) (and_left (ltb s.sh_addr e) (ltb e (s.sh_addr + s.sh_size)) (le-ltb s.sh_addr e before))

not_inside_behind : (s : Place) (e : ℕ) → s.sh_addr + s.sh_size ≤ e → not (lies_inside s e) ≡ true
not_inside_behind s e behind = not_from_false (lies_inside s e) (and_right (ltb s.sh_addr e) (ltb e (s.sh_addr + s.sh_size)) (le-ltb e (s.sh_addr + s.sh_size) behind))

inside : (s : Place) (e : ℕ) → s.sh_addr < e → e < s.sh_addr + s.sh_size → not (lies_inside s e) ≡ false
inside s e low high = not_from_true (lies_inside s e) (and_from (ltb s.sh_addr e) (ltb e (s.sh_addr + s.sh_size)) (lt-ltb s.sh_addr e low) (lt-ltb e (s.sh_addr + s.sh_size) high))

module _ (ends : List ℕ) (s : Place) (up : IsNonDecreasing ends) (passed : ℕ) (bound : passed ≤ length ends)
    (point : IsPartitionPoint (λ e. leb e s.sh_addr ≡ true) (λ e. leb e s.sh_addr ≡ false) ends passed) where
  before_start : (k d : ℕ) → k < passed → not (lies_inside s (get_or ends k d)) ≡ true
  before_start k d before = not_inside_before s (get_or ends k d) (leb-true (get_or ends k d) s.sh_addr (point.0 k d (omega arith) before))

  pub clear_before : passed ≡ length ends → list_all (λ e. not (lies_inside s e)) ends ≡ true
  clear_before e = list_all-from_AllPass (λ e. not (lies_inside s e)) ends (λ k d within. before_start k d (omega arith))

  pub clear_by_first : passed ≢ length ends → list_all (λ e. not (lies_inside s e)) ends ≡ leb (s.sh_addr + s.sh_size) (get_or ends passed 0)
  clear_by_first some =
      elim (cases_Bool (leb (s.sh_addr + s.sh_size) (get_or ends passed 0))) [
        | inl h ↦
            (let high : s.sh_addr + s.sh_size ≤ get_or ends passed 0 = leb-true (s.sh_addr + s.sh_size) (get_or ends passed 0) h in
            list_all-from_AllPass (λ e. not (lies_inside s e)) ends (λ k d within.
            elim (cases_lt k passed) [
              | inl before ↦ before_start k d before
              | inr behind ↦ not_inside_behind s (get_or ends k d) (omega (arith, up passed k d behind within, get_or_default ends passed 0 d (omega arith)))
            ]) ∙ sym h)
        | inr h ↦
            (let low : s.sh_addr < get_or ends passed 0 = leb-false (get_or ends passed 0) s.sh_addr (point.1 passed 0 (omega arith) (omega arith)) in
            let high : get_or ends passed 0 < s.sh_addr + s.sh_size = leb-false (s.sh_addr + s.sh_size) (get_or ends passed 0) h in
            list_all_at (λ e. not (lies_inside s e)) ends passed 0 (omega arith) (inside s (get_or ends passed 0) low high) ∙ sym h)
      ]

-- ## All uninitialized sections

all_not : {X : Type 0} → (test : X → Bool) (xs : List X) → list_all (λ x. not (test x)) xs ≡ not (list_any test xs)
all_not test [] = refl
all_not test (x ∷ xs) = ap (λ b. not (test x) && b) (all_not test xs) ∙ by_test (test x) (list_any test xs)
  where
    by_test : (a b : Bool) → (not a && not b) ≡ not (a || b)
    by_test true b = refl
    by_test false b = refl

-- the places are clear of a section where each load's is
clear_alike : (segments : List SegmentHeader) (ends : List ℕ) (s : Place) → AreEndsInOrder segments ends
    → list_all (λ e. not (lies_inside s e)) ends ≡ list_all (λ p. not (crosses_file_end p s)) (loads_of segments)
clear_alike segments ends s are =
    let places : List ℕ = map file_end (loads_of segments) in
    all_not (lies_inside s) ends ∙ ap not (sym (list_any-IsPermutation (lies_inside s) places ends are.same)) ∙ sym (all_not (lies_inside s) places)
    ∙ list_all-map (λ e. not (lies_inside s e)) file_end (loads_of segments)

pub clear_if_uninitialized : (segments : List SegmentHeader) (ends : List ℕ) (ss : List SectionHeader) → AreEndsInOrder segments ends
    → list_all (λ s. is_clear_if_uninitialized ends (place_of s)) ss ≡ uninitialized_clear segments (places_of ss)
clear_if_uninitialized segments ends ss are =
    sym (list_all-map (is_clear_if_uninitialized ends) place_of ss)
    ∙ all_if_picked is_uninitialized (λ s. list_all (λ e. not (lies_inside s e)) ends) (λ s. list_all (λ p. not (crosses_file_end p s)) (loads_of segments))
    (λ s h. clear_alike segments ends s are) (places_of ss)
