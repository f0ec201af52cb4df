-- Which loaded segment can hold a section that has bytes: of segments that come in turn in the file, only the
-- last one that begins at the section or before it.
use Rattle.std.proofs.Common.{◌≡◌, ◌≢◌, ◌≤◌, ◌<◌, ℕ, ◌+◌, ◌-◌, Bool, true, false, cond, eqb, leb, List, [], ◌∷◌, length, get_or, map, refl, sym, ap, ◌∙◌, subst, inl, inr, arith}
use Rattle.std.specs.Prelude.{◌&&◌, ◌||◌, not, filter}
use Rattle.std.specs.List.{list_all, list_any}
use Rattle.std.specs.List.Sorted.{IsNonDecreasingBy, IsPartitionPoint, IsPartitionedBy, IsPermutation}
use Rattle.std.proofs.Math.Bool.{and-true}
use Rattle.std.proofs.lemmas.Bool.{and_from, and_parts, cases_Bool, cases_eq, cases_lt, eqb-false, false_from_ne_true, false≢true, le-leb, leb-false, leb-true, ne_eqb, not-true}
use Rattle.std.proofs.lemmas.List.{get_or-map, get_or_default, length-map}
use Rattle.std.proofs.lemmas.List.Folds.{list_all-map, list_any_at, list_any_none}
use Rattle.std.proofs.lemmas.List.Sorted.{All-permutation, IsPermutation-map, list_any-IsPermutation}
use Rattle.std.proofs.lemmas.List.Elements.{filter_passes}
use Rattle.elf_image_rules.specs.TheConstants.{PT_LOAD}
use Rattle.elf_image_rules.specs.File.{loads_of}
use Rattle.elf_image_rules.specs.Placement.{file_part, holds, is_stored, sections_held}
use Rattle.elf_image_rules.specs.Places.{Place, file_range, occupies_file, occupies_memory, place_of, places_of}
use Rattle.elf_image_placement.specs.PlacementSteps.{AreInTurn, AreLoadsInTurn, is_filled_load, is_held_if_stored}
use Rattle.elf_image_rules.specs.Range.{Range}
use Rattle.elf_image_rules.specs.Ranges.{all_apart, apart, lies_in}
use Rattle.elf_image_rules.specs.SectionHeader.{SectionHeader}
use Rattle.elf_image_rules.specs.SegmentHeader.{SegmentHeader}
use Rattle.elf_image_placement.proofs.PlacementApart.{all_apart-IsPermutation, apart-order, apart_at}

-- ## The holder of a section

-- what a segment that holds a section that has bytes is, in numbers
holds-tells : (p : SegmentHeader) (s : Place) → holds p s ≡ true → (p.p_offset ≤ s.sh_offset) × (s.sh_offset + s.sh_size ≤ p.p_offset + p.p_filesz)
holds-tells p s h =
    let inside = and_parts (lies_in (file_range s) (file_part p)) (eqb (s.sh_addr + p.p_offset) (p.p_vaddr + s.sh_offset)) h in
    let ends = and_parts (leb p.p_offset s.sh_offset) (leb (s.sh_offset + s.sh_size) (p.p_offset + p.p_filesz)) inside.0 in
    (leb-true p.p_offset s.sh_offset ends.0, leb-true (s.sh_offset + s.sh_size) (p.p_offset + p.p_filesz) ends.1)

-- segments that come in turn are parted by where a place stands
pub parted_by : (loads : List SegmentHeader) (place : ℕ) → AreInTurn loads → IsPartitionedBy (λ p. leb p.p_offset place) loads
parted_by loads place turn i j d order within e =
    let last : (get_or loads j d).p_offset ≤ place = leb-true (get_or loads j d).p_offset place e in
    elim (cases_eq i j) [
      | inl same ↦ subst (λ k. leb (get_or loads k d).p_offset place ≡ true) (sym same) e
      | inr other ↦ le-leb (get_or loads i d).p_offset place (let h = turn i j d (omega arith) within in omega (arith, h))
    ]

module _ (loads : List SegmentHeader) (s : Place) (sized : 0 < s.sh_size) (turn : AreInTurn loads) (count : ℕ) (bound : count ≤ length loads)
    (point : IsPartitionPoint (λ p. leb p.p_offset s.sh_offset ≡ true) (λ p. leb p.p_offset s.sh_offset ≡ false) loads count) where
  -- no segment holds it but the last one that begins at it or before it
  other_holds : (k : ℕ) (d : SegmentHeader) → k < length loads → k + 1 ≢ count → holds (get_or loads k d) s ≡ false
  other_holds k d within ne =
      false_from_ne_true (holds (get_or loads k d) s) (λ h.
      let tells = holds-tells (get_or loads k d) s h in
      elim (cases_lt k count) [
        | inl before ↦
            (let low = turn k (count - 1) d (omega arith) (omega arith) in
            let high = point.0 (count - 1) d (omega arith) (omega arith) in
            let at : (get_or loads (count - 1) d).p_offset ≤ s.sh_offset = leb-true (get_or loads (count - 1) d).p_offset s.sh_offset high in
            omega (arith, low, tells.1))
        | inr behind ↦
            (let high = point.1 k d behind within in
            omega (arith, leb-false (get_or loads k d).p_offset s.sh_offset high, tells.0))
      ])

  pub none_holds : count ≡ 0 → list_any (λ p. holds p s) loads ≡ false
  none_holds e = list_any_none (λ p. holds p s) loads (λ k d within. other_holds k d within (λ f. omega arith))

  pub last_holds : (d : SegmentHeader) → count ≢ 0 → list_any (λ p. holds p s) loads ≡ holds (get_or loads (count - 1) d) s
  last_holds d some =
      elim (cases_Bool (holds (get_or loads (count - 1) d) s)) [
        | inl h ↦ list_any_at (λ p. holds p s) loads (count - 1) d (omega arith) h ∙ sym h
        | inr h ↦ list_any_none (λ p. holds p s) loads (λ k e within.
            elim (cases_eq (k + 1) count) [
              | inl here ↦
                  (let at : k ≡ count - 1 = omega arith in
                  ap (λ p. holds p s) (get_or_default loads k e d within) ∙ subst (λ n. holds (get_or loads n d) s ≡ false) (sym at) h)
              | inr other ↦ other_holds k e within other
            ]) ∙ sym h
      ]

-- ## Segments in turn

-- what holds of those that pass a weaker test
all_fewer : {X Y : Type 0} → (test : Y → Bool) (f : X → Y) (p q : X → Bool) → ((x : X) → p x ≡ true → q x ≡ true) → (xs : List X)
    → list_all test (map f (filter q xs)) ≡ true → list_all test (map f (filter p xs)) ≡ true
all_fewer test f p q more [] h = refl
all_fewer test f p q more (x ∷ xs) h = by_tests (p x) (q x) (more x) (all_fewer test f p q more xs) h
  where
    by_tests : (b c : Bool) → (b ≡ true → c ≡ true) → (list_all test (map f (filter q xs)) ≡ true → list_all test (map f (filter p xs)) ≡ true)
        → list_all test (map f (cond c (x ∷ filter q xs) (filter q xs))) ≡ true → list_all test (map f (cond b (x ∷ filter p xs) (filter p xs))) ≡ true
    by_tests true true i rest h' =
        let both = and_parts (test (f x)) (list_all test (map f (filter q xs))) h' in
        and_from (test (f x)) (list_all test (map f (filter p xs))) both.0 (rest both.1)
    by_tests true false i rest h' = absurd (false≢true (i refl))
    by_tests false true i rest h' = rest (and_parts (test (f x)) (list_all test (map f (filter q xs))) h').1
    by_tests false false i rest h' = rest h'

apart_fewer : {X : Type 0} → (f : X → Range) (p q : X → Bool) → ((x : X) → p x ≡ true → q x ≡ true) → (xs : List X)
    → all_apart (map f (filter q xs)) ≡ true → all_apart (map f (filter p xs)) ≡ true
apart_fewer f p q more [] h = refl
apart_fewer f p q more (x ∷ xs) h = by_tests (p x) (q x) (more x) (apart_fewer f p q more xs) h
  where
    by_tests : (b c : Bool) → (b ≡ true → c ≡ true) → (all_apart (map f (filter q xs)) ≡ true → all_apart (map f (filter p xs)) ≡ true)
        → all_apart (map f (cond c (x ∷ filter q xs) (filter q xs))) ≡ true → all_apart (map f (cond b (x ∷ filter p xs) (filter p xs))) ≡ true
    by_tests true true i rest h' =
        let both = and_parts (list_all (λ s. apart (f x) s) (map f (filter q xs))) (all_apart (map f (filter q xs))) h' in
        and_from (list_all (λ s. apart (f x) s) (map f (filter p xs))) (all_apart (map f (filter p xs)))
        (all_fewer (λ s. apart (f x) s) f p q more xs both.0) (rest both.1)
    by_tests true false i rest h' = absurd (false≢true (i refl))
    by_tests false true i rest h' = rest (and_parts (list_all (λ s. apart (f x) s) (map f (filter q xs))) (all_apart (map f (filter q xs))) h').1
    by_tests false false i rest h' = rest h'

filled_load-tells : (p : SegmentHeader) → is_filled_load p ≡ true → (eqb p.p_type PT_LOAD ≡ true) × (0 < p.p_filesz)
filled_load-tells p h =
    let both = and_parts (eqb p.p_type PT_LOAD) (not (eqb p.p_filesz 0)) h in
    (both.0, let ne = eqb-false p.p_filesz 0 (not-true (eqb p.p_filesz 0) both.1) in omega (arith, ne))

-- loads that are apart, sorted by their offsets, come in turn
pub loads_in_turn : (segments kept loads : List SegmentHeader) → all_apart (map file_part (loads_of segments)) ≡ true → kept ≡ filter is_filled_load segments
    → IsPermutation kept loads → IsNonDecreasingBy (λ p. p.p_offset) loads → AreLoadsInTurn segments loads
loads_in_turn segments kept loads parts e moved up =
    let moved_filter : IsPermutation (filter is_filled_load segments) loads = subst (λ ps. IsPermutation ps loads) e moved in
    let fewer : all_apart (map file_part (filter is_filled_load segments)) ≡ true = apart_fewer file_part is_filled_load (λ p. eqb p.p_type PT_LOAD) (λ p h. (filled_load-tells p h).0) segments parts in
    let ranges : List Range = map file_part loads in
    let all : all_apart ranges ≡ true = all_apart-IsPermutation (map file_part (filter is_filled_load segments)) ranges (IsPermutation-map file_part (filter is_filled_load segments) loads moved_filter) ∙ fewer in
    let filled = All-permutation (λ p. is_filled_load p ≡ true) (filter is_filled_load segments) loads moved_filter (filter_passes is_filled_load segments) in
    record {
      in_turn = λ i j d before within.
          let first : 0 < (get_or loads i d).p_filesz = (filled_load-tells (get_or loads i d) (filled i d (omega arith))).1 in
          let second : 0 < (get_or loads j d).p_filesz = (filled_load-tells (get_or loads j d) (filled j d within)).1 in
          let long : length ranges ≡ length loads = length-map loads file_part in
          let two = apart_at ranges all i j (file_part d) (λ s. omega arith) (omega arith) (omega arith) in
          let low : get_or ranges i (file_part d) ≡ file_part (get_or loads i d) = get_or-map file_part loads i d (file_part d) (omega arith) in
          let high : get_or ranges j (file_part d) ≡ file_part (get_or loads j d) = get_or-map file_part loads j d (file_part d) within in
          let apart_here : apart (file_part (get_or loads i d)) (file_part (get_or loads j d)) ≡ true = subst (λ r. apart (file_part (get_or loads i d)) r ≡ true) high (subst (λ r. apart r (get_or ranges j (file_part d)) ≡ true) low two) in
          apart-order (file_part (get_or loads i d)) (file_part (get_or loads j d)) apart_here first second (up i j d (omega arith) within);
      same = moved_filter;
    }

-- ## All stored sections

any_skip : {X : Type 0} → (test : X → Bool) (x : X) (xs : List X) (b : Bool) → test x ≡ false → list_any test (cond b (x ∷ xs) xs) ≡ list_any test xs
any_skip test x xs true h = ap (λ t. t || list_any test xs) h
any_skip test x xs false h = refl

-- a test finds the same by two filters that agree where it passes
any_agree : {X : Type 0} → (test p q : X → Bool) → ((x : X) → test x ≡ true → p x ≡ q x) → (xs : List X) → list_any test (filter p xs) ≡ list_any test (filter q xs)
any_agree test p q same [] = refl
any_agree test p q same (x ∷ xs) =
    elim (cases_Bool (test x)) [
      | inl h ↦ ap (λ b. list_any test (cond b (x ∷ filter p xs) (filter p xs))) (same x h) ∙ by_pick (q x) (any_agree test p q same xs)
      | inr h ↦ any_skip test x (filter p xs) (p x) h ∙ any_agree test p q same xs ∙ sym (any_skip test x (filter q xs) (q x) h)
    ]
  where
    by_pick : (b : Bool) → list_any test (filter p xs) ≡ list_any test (filter q xs)
        → list_any test (cond b (x ∷ filter p xs) (filter p xs)) ≡ list_any test (cond b (x ∷ filter q xs) (filter q xs))
    by_pick true rest = ap (λ t. test x || t) rest
    by_pick false rest = rest

-- a test of those that are picked, where it differs elsewhere
pub all_if_picked : {X : Type 0} → (pick test other : X → Bool) → ((x : X) → pick x ≡ true → test x ≡ other x) → (xs : List X)
    → list_all (λ x. not (pick x) || test x) xs ≡ list_all other (filter pick xs)
all_if_picked pick test other same [] = refl
all_if_picked pick test other same (x ∷ xs) = by_pick (pick x) (same x) (all_if_picked pick test other same xs)
  where
    by_pick : (b : Bool) → (b ≡ true → test x ≡ other x) → list_all (λ y. not (pick y) || test y) xs ≡ list_all other (filter pick xs)
        → ((not b || test x) && list_all (λ y. not (pick y) || test y) xs) ≡ list_all other (cond b (x ∷ filter pick xs) (filter pick xs))
    by_pick true e rest = ap (λ t. t && list_all (λ y. not (pick y) || test y) xs) (e refl) ∙ ap (λ t. other x && t) rest
    by_pick false e rest = rest

stored-sized : (s : Place) → is_stored s ≡ true → 0 < s.sh_size
stored-sized s h =
    let both = and_parts (occupies_memory s && occupies_file s) (not (eqb s.sh_size 0)) h in
    let ne = eqb-false s.sh_size 0 (not-true (eqb s.sh_size 0) both.1) in
    omega (arith, ne)

-- a section that has bytes is held by a load in turn where it is held by a load
held_alike : (segments loads : List SegmentHeader) (s : Place) → AreLoadsInTurn segments loads → 0 < s.sh_size
    → list_any (λ p. holds p s) loads ≡ list_any (λ p. holds p s) (loads_of segments)
held_alike segments loads s are sized =
    sym (list_any-IsPermutation (λ p. holds p s) (filter is_filled_load segments) loads are.same)
    ∙ any_agree (λ p. holds p s) is_filled_load (λ p. eqb p.p_type PT_LOAD) (λ p h. by_size p (holds-tells p s h)) segments
  where
    by_size : (p : SegmentHeader) → (p.p_offset ≤ s.sh_offset) × (s.sh_offset + s.sh_size ≤ p.p_offset + p.p_filesz) → is_filled_load p ≡ eqb p.p_type PT_LOAD
    by_size p tells =
        let some : eqb p.p_filesz 0 ≡ false = ne_eqb p.p_filesz 0 (λ e. omega (arith, tells.0, tells.1)) in
        ap (λ b. eqb p.p_type PT_LOAD && not b) some ∙ and-true (eqb p.p_type PT_LOAD)

pub held_if_stored : (segments loads : List SegmentHeader) (ss : List SectionHeader) → AreLoadsInTurn segments loads
    → list_all (λ s. is_held_if_stored loads (place_of s)) ss ≡ sections_held segments (places_of ss)
held_if_stored segments loads ss are =
    sym (list_all-map (is_held_if_stored loads) place_of ss)
    ∙ all_if_picked is_stored (λ s. list_any (λ p. holds p s) loads && not (eqb s.sh_offset 0)) (λ s. list_any (λ p. holds p s) (loads_of segments) && not (eqb s.sh_offset 0))
    (λ s h. ap (λ b. b && not (eqb s.sh_offset 0)) (held_alike segments loads s are (stored-sized s h))) (places_of ss)

-- a segment that stands for none
abbrev pub no_segment : SegmentHeader
no_segment = record { p_type = 0; p_flags = 0; p_offset = 0; p_vaddr = 0; p_paddr = 0; p_filesz = 0; p_memsz = 0; p_align = 0 }
