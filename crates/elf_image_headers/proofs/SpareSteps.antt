-- Passes over program headers and sections, one after another.
use Rattle.std.proofs.Common.{◌≡◌, ℕ, zero, suc, ◌+◌, ◌<◌, ◌≤◌, Bool, true, false, cond, List, [], ◌∷◌, length, map, drop, get_or, refl, sym, ap, ◌∙◌, Option, Some, None, arith}
use Rattle.std.specs.Prelude.{◌&&◌, ◌||◌, ◌==◌, filter, fold, if◌then◌else◌, max, min, nat_le, nat_lt, not, sum_by}
use Rattle.std.specs.List.{list_any}
use Rattle.std.proofs.lemmas.Bool.{le-leb}
use Rattle.std.proofs.lemmas.List.{at_drop_more, drop_all}
use Rattle.std.proofs.lemmas.List.Sums.{sum_by-cons}
use Rattle.elf_format.specs.Number.{field}
use Rattle.elf_format.specs.declared.constants.TheConstants.{SHF_ALLOC}
use Rattle.elf_format.specs.declared.records.SegmentHeader.{SegmentHeader}
use Rattle.elf_format.specs.File.{is_loaded}
use Rattle.elf_format.specs.Image.{ImageSection}
use Rattle.elf_format.specs.Placement.{memory_part}
use Rattle.elf_format.specs.Places.{is_set}
use Rattle.elf_format.specs.Ranges.{end_of}
use Rattle.elf_image_headers.specs.declared.segment.TheConstants.{MOST_SEGMENTS}
use Rattle.elf_image_headers.specs.Spare.{SpareFacts, can_reclaim, could_be_spare, count_filled, count_others, fixed_end, fixed_section_end, fixed_sections_end, is_spare, others_end, segments_reclaimed}
use Rattle.elf_image_headers.specs.SpareFrom.{can_reclaim_from, end_after, filled_if_behind, filled_if_spare, left, reclaimable, spare_from, stays_loaded}

-- ## The greatest of those that pass a test

module _ {X : Type 0} (test : X → Bool) (value : X → ℕ) where
  abbrev pub greatest_of : ℕ → List X → ℕ
  greatest_of n xs = fold max n (map value (filter test xs))

  by_test : (n : ℕ) (x : X) (xs : List X) (b : Bool) → fold max n (map value (cond b (x ∷ filter test xs) (filter test xs))) ≡ greatest_of (max (cond b (value x) 0) n) xs
  by_test n x xs true = ap (λ (m : ℕ). greatest_of m xs) (omega arith)
  by_test n x xs false = ap (λ (m : ℕ). greatest_of m xs) (omega arith)

  -- one element more, in a list that is seen element by element
  pub next_greatest : {A : Type 0} (view : A → X) (zs : List A) (i n m r : ℕ) (b : Bool) (d : A) → i < length zs
      → m ≡ max r n → r ≡ (if b then value (view (get_or zs i d)) else 0) → b ≡ test (view (get_or zs i d))
      → greatest_of m (map view (drop (i + 1) zs)) ≡ greatest_of n (map view (drop i zs))
  next_greatest {A} view zs i n m r b d within most is tested =
      let x : X = view (get_or zs i d) in
      let same : m ≡ max (cond (test x) (value x) 0) n = most ∙ ap (λ (v : ℕ). max v n) (is ∙ ap (λ (c : Bool). cond c (value x) 0) tested) in
      ap (λ (k : ℕ). greatest_of k (map view (drop (i + 1) zs))) same ∙ sym (by_test n x (map view (drop (i + 1) zs)) (test x))
      ∙ sym (at_drop_more (λ (l : List A). greatest_of n (map view l)) zs i d within)

  pub greatest_done : {A : Type 0} (view : A → X) (zs : List A) (i n : ℕ) → length zs ≤ i → greatest_of n (map view (drop i zs)) ≡ n
  greatest_done {A} view zs i n past = ap (λ (l : List A). greatest_of n (map view l)) (drop_all i zs past)

-- where segments end
abbrev pub memory_end : SegmentHeader → ℕ
memory_end p = end_of (memory_part p)

-- ## Sums

-- ## Sections with their numbers

module _ (strings : Option ℕ) (interpreter : Option SegmentHeader) where
  no_sections : (end : ℕ) (ns : List ℕ) → fixed_sections_end strings interpreter end ns [] ≡ end
  unfolding fixed_sections_end
  no_sections end [] = refl
  no_sections end (n ∷ ns) = refl

  no_numbers : (end : ℕ) (ss : List ImageSection) → fixed_sections_end strings interpreter end [] ss ≡ end
  unfolding fixed_sections_end
  no_numbers end ss = refl

  one_section : (end n : ℕ) (ns : List ℕ) (s : ImageSection) (ss : List ImageSection)
      → fixed_sections_end strings interpreter end (n ∷ ns) (s ∷ ss) ≡ fixed_sections_end strings interpreter (max (fixed_section_end strings interpreter n s) end) ns ss
  unfolding fixed_sections_end
  one_section end n ns s ss = refl

  pub next_section : {A : Type 0} (view : A → ImageSection) (ns : List ℕ) (zs : List A) (i end m r d : ℕ) (e z : A) → i < length ns → i < length zs
      → m ≡ max r end → r ≡ fixed_section_end strings interpreter (get_or ns i d) (view z) → z ≡ get_or zs i e
      → fixed_sections_end strings interpreter m (drop (i + 1) ns) (map view (drop (i + 1) zs)) ≡ fixed_sections_end strings interpreter end (drop i ns) (map view (drop i zs))
  next_section {A} view ns zs i end m r d e z first second most is there =
      ap (λ (k : ℕ). fixed_sections_end strings interpreter k (drop (i + 1) ns) (map view (drop (i + 1) zs)))
      (most ∙ ap (λ (v : ℕ). max v end) (is ∙ ap (λ (y : A). fixed_section_end strings interpreter (get_or ns i d) (view y)) there))
      ∙ sym (one_section end (get_or ns i d) (drop (i + 1) ns) (view (get_or zs i e)) (map view (drop (i + 1) zs)))
      ∙ sym (at_drop_more (λ (l : List A). fixed_sections_end strings interpreter end (get_or ns i d ∷ drop (i + 1) ns) (map view l)) zs i e second)
      ∙ sym (at_drop_more (λ (l : List ℕ). fixed_sections_end strings interpreter end l (map view (drop i zs))) ns i d first)

  pub sections_done : {A : Type 0} (view : A → ImageSection) (ns : List ℕ) (zs : List A) (i end : ℕ) → min (length ns) (length zs) ≤ i
      → fixed_sections_end strings interpreter end (drop i ns) (map view (drop i zs)) ≡ end
  sections_done view [] zs i end past = ap (λ (l : List ℕ). fixed_sections_end strings interpreter end l (map view (drop i zs))) (drop_all i [] (omega arith)) ∙ no_numbers end (map view (drop i zs))
  sections_done {A} view (n ∷ ns) [] i end past =
      ap (λ (l : List A). fixed_sections_end strings interpreter end (drop i (n ∷ ns)) (map view l)) (drop_all i [] (omega arith)) ∙ no_sections end (drop i (n ∷ ns))
  sections_done view (n ∷ ns) (z ∷ zs) zero end past = absurd (omega (arith, past))
  sections_done view (n ∷ ns) (z ∷ zs) (suc i) end past = sections_done view ns zs i end (omega (arith, past))

-- ## Two tests after one another

module _ {X : Type 0} where
  pub same_tests : (f g : X → Bool) → ((x : X) → f x ≡ g x) → (xs : List X) → filter f xs ≡ filter g xs
  same_tests f g same [] = refl
  same_tests f g same (x ∷ xs) =
      ap (λ (b : Bool). cond b (x ∷ filter f xs) (filter f xs)) (same x) ∙ ap (λ (l : List X). cond (g x) (x ∷ l) l) (same_tests f g same xs)

  pub both_tests : (f g : X → Bool) (xs : List X) → filter f (filter g xs) ≡ filter (λ x. f x && g x) xs
  both_tests f g [] = refl
  both_tests f g (x ∷ xs) = by_both (f x) refl (g x) (both_tests f g xs)
    where
      by_both : (b : Bool) → f x ≡ b → (c : Bool) → filter f (filter g xs) ≡ filter (λ y. f y && g y) xs
          → filter f (cond c (x ∷ filter g xs) (filter g xs)) ≡ cond (b && c) (x ∷ filter (λ y. f y && g y) xs) (filter (λ y. f y && g y) xs)
      by_both true is true rest = ap (λ (b : Bool). cond b (x ∷ filter f (filter g xs)) (filter f (filter g xs))) is ∙ ap (λ (l : List X). x ∷ l) rest
      by_both true is false rest = rest
      by_both false is true rest = ap (λ (b : Bool). cond b (x ∷ filter f (filter g xs)) (filter f (filter g xs))) is ∙ rest
      by_both false is false rest = rest

  pub any_both : (f g : X → Bool) (xs : List X) → list_any f (filter g xs) ≡ list_any (λ x. f x && g x) xs
  any_both f g [] = refl
  any_both f g (x ∷ xs) = by_both (f x) refl (g x) (any_both f g xs)
    where
      by_both : (b : Bool) → f x ≡ b → (c : Bool) → list_any f (filter g xs) ≡ list_any (λ y. f y && g y) xs
          → list_any f (cond c (x ∷ filter g xs) (filter g xs)) ≡ (b && c || list_any (λ y. f y && g y) xs)
      by_both true is true rest = ap (λ (b : Bool). b || list_any f (filter g xs)) is
      by_both true is false rest = rest
      by_both false is true rest = ap (λ (b : Bool). b || list_any f (filter g xs)) is ∙ rest
      by_both false is false rest = rest

  pub sum_filtered : (f : X → ℕ) (test : X → Bool) (xs : List X) → sum_by f (filter test xs) ≡ sum_by (λ x. if test x then f x else 0) xs
  sum_filtered f test [] = refl
  sum_filtered f test (x ∷ xs) = by_one (test x) (sum_filtered f test xs) ∙ sym (sum_by-cons (λ y. if test y then f y else 0) x xs)
    where
      by_one : (b : Bool) → sum_by f (filter test xs) ≡ sum_by (λ y. if test y then f y else 0) xs
          → sum_by f (cond b (x ∷ filter test xs) (filter test xs)) ≡ (if b then f x else 0) + sum_by (λ y. if test y then f y else 0) xs
      by_one true rest = sum_by-cons f x (filter test xs) ∙ ap (λ (n : ℕ). f x + n) rest
      by_one false rest = omega (arith, rest)

  pub map_filtered : {A : Type 0} (view : A → X) (test : X → Bool) (zs : List A) → map view (filter (λ z. test (view z)) zs) ≡ filter test (map view zs)
  map_filtered view test [] = refl
  map_filtered {A} view test (z ∷ zs) = by_one (test (view z)) (map_filtered view test zs)
    where
      by_one : (b : Bool) → map view (filter (λ y. test (view y)) zs) ≡ filter test (map view zs)
          → map view (cond b (z ∷ filter (λ y. test (view y)) zs) (filter (λ y. test (view y)) zs)) ≡ cond b (view z ∷ filter test (map view zs)) (filter test (map view zs))
      by_one true rest = ap (λ (l : List X). view z ∷ l) rest
      by_one false rest = rest

-- ## From where on they are spare

-- with no end of the others asked for, all that could be spare are
pub others_from : (f : SpareFacts) → end_after 0 (filter (stays_loaded (record { fixed = fixed_end f; others = 0; table = f.table })) f.segments) ≡ others_end f
unfolding others_end
others_from f =
    ap (λ (l : List SegmentHeader). end_after 0 l)
    (same_tests (stays_loaded (record { fixed = fixed_end f; others = 0; table = f.table })) (λ p. is_loaded p && not (could_be_spare (fixed_end f) f.table p)) alike f.segments
    ∙ sym (both_tests is_loaded (λ p. not (could_be_spare (fixed_end f) f.table p)) f.segments))
  where
    and_true : (b : Bool) → (b && true) ≡ b
    and_true true = refl
    and_true false = refl

    alike : (p : SegmentHeader) → stays_loaded (record { fixed = fixed_end f; others = 0; table = f.table }) p ≡ (is_loaded p && not (could_be_spare (fixed_end f) f.table p))
    alike p =
        let could : Bool = could_be_spare (fixed_end f) f.table p in
        ap (λ (b : Bool). is_loaded p && not (could && b)) (le-leb 0 p.p_vaddr (omega arith)) ∙ ap (λ (b : Bool). is_loaded p && not b) (and_true could)

-- whether spare segments can be taken away is told by from where on they are spare
pub told_from : (f : SpareFacts) → can_reclaim_from (spare_from f) f ≡ can_reclaim f
unfolding can_reclaim
told_from f =
    let some : list_any (stays_loaded (spare_from f)) f.segments ≡ list_any is_loaded (filter (λ p. not (is_spare f p)) f.segments) =
    sym (any_both is_loaded (λ p. not (is_spare f p)) f.segments) in
    let end : filter (stays_loaded (spare_from f)) f.segments ≡ filter is_loaded (filter (λ p. not (is_spare f p)) f.segments) =
    sym (both_tests is_loaded (λ p. not (is_spare f p)) f.segments) in
    let first : sum_by (filled_if_spare (spare_from f) f.source) f.segments ≡ sum_by (λ p. count_filled (field p.p_filesz p.p_offset f.source)) (filter (is_spare f) f.segments) =
    sym (sum_filtered (λ p. count_filled (field p.p_filesz p.p_offset f.source)) (is_spare f) f.segments) in
    let second : sum_by (filled_if_behind (others_end f)) f.sections ≡ sum_by (λ s. count_filled s.content) (filter (λ s. is_set SHF_ALLOC s.sh_flags && nat_le (others_end f) s.sh_addr) f.sections) =
    sym (sum_filtered (λ s. count_filled s.content) (λ s. is_set SHF_ALLOC s.sh_flags && nat_le (others_end f) s.sh_addr) f.sections) in
    let left_end : ℕ = end_after 0 (filter (stays_loaded (spare_from f)) f.segments) in
    let filled : ℕ = sum_by (filled_if_spare (spare_from f) f.source) f.segments in
    let room : Bool = nat_lt (count_others f.segments) MOST_SEGMENTS in
    ap (λ (b : Bool). b && nat_le left_end (others_end f) && filled == sum_by (filled_if_behind (others_end f)) f.sections && room) some
    ∙ ap (λ (l : List SegmentHeader). list_any is_loaded (filter (λ p. not (is_spare f p)) f.segments) && nat_le (end_after 0 l) (others_end f)
    && filled == sum_by (filled_if_behind (others_end f)) f.sections && room) end
    ∙ ap (λ (n : ℕ). list_any is_loaded (filter (λ p. not (is_spare f p)) f.segments) && nat_le (end_after 0 (filter is_loaded (filter (λ p. not (is_spare f p)) f.segments))) (others_end f)
    && n == sum_by (filled_if_behind (others_end f)) f.sections && room) first
    ∙ ap (λ (n : ℕ). list_any is_loaded (filter (λ p. not (is_spare f p)) f.segments) && nat_le (end_after 0 (filter is_loaded (filter (λ p. not (is_spare f p)) f.segments))) (others_end f)
    && sum_by (λ p. count_filled (field p.p_filesz p.p_offset f.source)) (filter (is_spare f) f.segments) == n && room) second

-- what is left is what the definition leaves
pub left_is : (f : SpareFacts) → left (reclaimable f) f.segments ≡ segments_reclaimed f
unfolding segments_reclaimed
left_is f = by_told (can_reclaim f)
  where
    by_told : (b : Bool) → left (if b then Some (spare_from f) else None) f.segments ≡ (if b then filter (λ p. not (is_spare f p)) f.segments else f.segments)
    by_told true = refl
    by_told false = refl
