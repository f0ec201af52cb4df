-- Limits of sections tell which program headers are split.
use Rattle.std.proofs.Common.{◌≡◌, ℕ, zero, suc, ◌+◌, ◌-◌, ◌<◌, ◌≤◌, List, [], ◌∷◌, ◌++◌, Bool, true, false, not, ◌&&◌, ◌||◌, cond, Some, drop, get_or, length, map, max, take, refl, sym, ap, ◌∙◌, subst, inl, inr, arith}
use Rattle.std.specs.Prelude.{count_by, filter, nat_le, nat_lt, slice_get, IsPermutation}
use Rattle.std.specs.List.{AllWithin, list_any}
use Rattle.std.proofs.lemmas.Bool.{and_from, and_parts, cases_lt, false≢true, le-leb, lt-leb, le-ltb, lt-ltb, leb-true, ltb-true}
use Rattle.std.proofs.lemmas.List.{drop-map, get_or-map, get_or_past, length-append, length-map, map-append, take-map, take_more}
use Rattle.std.proofs.lemmas.List.Elements.{filter_agree, filter_map-append}
use Rattle.std.proofs.lemmas.List.Sorted.{list_any-IsPermutation}
use Rattle.std.proofs.lemmas.List.Sums.{length-filter}
use Rattle.std.proofs.lemmas.Option.{get_or_from_slice_get, slice_get_within}
use Rattle.elf_format.specs.Image.{counted}
use Rattle.elf_format.specs.Options.{is_one_of}
use Rattle.elf_format.specs.Placement.{file_part}
use Rattle.elf_format.specs.Ranges.{end_of}
use Rattle.elf_format.specs.declared.range.Range.{Range}
use Rattle.elf_format.specs.declared.records.SegmentHeader.{SegmentHeader}
use Rattle.elf_format.proofs.ForCallers.Lengths.{length-counted, slice_index-counted}
use Rattle.elf_layout_plan.specs.Anchors.{Anchor, HeaderTable, Itself, Notes, OneSection, anchor_of, is_moved, is_parted, is_split}
use Rattle.elf_layout_plan.specs.Memory.{Resized}
use Rattle.elf_layout_plan.proofs.ForCallers.ApartLists.{any-at, any-from, push-at}
use Rattle.elf_layout_moves.specs.Inner.{AreMarks, positions_of}
use Rattle.elf_layout_moves.specs.Limits.{limit_at}
use Rattle.elf_layout_moves.specs.declared.limits.TheConstants.{NEVER}
use Rattle.elf_layout_segments.specs.declared.anchors.AnchorAt.{AnchorAt}
use Rattle.elf_layout_segments.specs.declared.anchors.AnchorAt.TheVariants as at
use Rattle.elf_layout_segments.specs.declared.forecasts.Limited.{Limited}
use Rattle.elf_layout_segments.specs.declared.leasts.Stretch.{Stretch}
use Rattle.elf_layout_segments.specs.declared.sections.SectionAt.{SectionAt}
use Rattle.elf_layout_segments.specs.AnchorPositions.{AnchorPosition, anchor_model, anchor_position, itself, notes, section, table}
use Rattle.elf_layout_segments.specs.Forecasts.{AreJoins, AreSplitLimits, AreStretchesIn, IsStretchIn, count_up_to, does_one_move, does_one_stay, limited_at, part_of, parts_of, splits_with}
use Rattle.elf_layout_segments.specs.InOrder.{is_in}
use Rattle.elf_layout_segments.specs.Leasts.{AreLeastIn, numbers_at, reaches}
use Rattle.elf_layout_segments.specs.Sections.{AreSized, begins_in, has_bytes_at, indexed_sections, positions_in}
use Rattle.elf_layout_segments.specs.SplitCounts.{is_marked}
use Rattle.elf_layout_segments.proofs.CountLaws.{any-picked, any_agree, count-cons, not_below}
use Rattle.elf_layout_segments.proofs.SplitSteps.{AreThere, anchor-there, any_move-is, any_stay-is, count_by-map}

same_if_both : (a b : Bool) → (a ≡ true → b ≡ true) → (b ≡ true → a ≡ true) → a ≡ b
same_if_both true b f g = sym (f refl)
same_if_both false true f g = absurd (false≢true (g refl))
same_if_both false false f g = refl

-- ## The stretch of a range

-- an element of a part of a list
part_at : {X : Type 0} (xs : List X) (from count i : ℕ) (x : X) → slice_get (take count (drop from xs)) i ≡ Some x → (i < count) × (slice_get xs (from + i) ≡ Some x)
part_at [] zero zero i x at = absurd (omega (arith, slice_get_within [] i x at))
part_at [] zero (suc count) i x at = absurd (omega (arith, slice_get_within [] i x at))
part_at [] (suc from) zero i x at = absurd (omega (arith, slice_get_within [] i x at))
part_at [] (suc from) (suc count) i x at = absurd (omega (arith, slice_get_within [] i x at))
part_at (y ∷ xs) zero zero i x at = absurd (omega (arith, slice_get_within [] i x at))
part_at (y ∷ xs) zero (suc count) zero x at = (omega arith, at)
part_at {X} (y ∷ xs) zero (suc count) (suc i) x at =
    let rest = part_at xs zero count i x at in
    let there : zero + suc i ≡ suc (zero + i) = omega arith in
    (omega (arith, rest.0), ap (λ (k : ℕ). slice_get (y ∷ xs) k) there ∙ rest.1)
part_at {X} (y ∷ xs) (suc from) count i x at =
    let rest = part_at xs from count i x at in
    let there : suc from + i ≡ suc (from + i) = omega arith in
    (rest.0, ap (λ (k : ℕ). slice_get (y ∷ xs) k) there ∙ rest.1)

at_part : {X : Type 0} (xs : List X) (from count i : ℕ) (x : X) → i < count → slice_get xs (from + i) ≡ Some x → slice_get (take count (drop from xs)) i ≡ Some x
at_part [] from count i x early at = absurd (omega (arith, slice_get_within [] (from + i) x at))
at_part (y ∷ xs) zero zero i x early at = absurd (omega (arith, early))
at_part (y ∷ xs) zero (suc count) zero x early at = at
at_part {X} (y ∷ xs) zero (suc count) (suc i) x early at =
    let there : zero + suc i ≡ suc (zero + i) = omega arith in
    at_part xs zero count i x (omega (arith, early)) (sym (ap (λ (k : ℕ). slice_get (y ∷ xs) k) there) ∙ at)
at_part {X} (y ∷ xs) (suc from) count i x early at =
    let there : suc from + i ≡ suc (from + i) = omega arith in
    at_part xs from count i x early (sym (ap (λ (k : ℕ). slice_get (y ∷ xs) k) there) ∙ at)

module _ (begins : List Limited) (part : Range) (s : Stretch)
    (before : AllWithin (λ (b : Limited). nat_lt b.start part.start ≡ true) begins 0 s.from) (behind : AllWithin (λ (b : Limited). nat_lt b.start part.start ≡ false) begins s.from (length begins))
    (inside : AllWithin (λ (b : Limited). nat_lt b.start (end_of part) ≡ true) begins 0 s.until) (past : AllWithin (λ (b : Limited). nat_lt b.start (end_of part) ≡ false) begins s.until (length begins))
    (ends : s.until ≤ length begins) where
  in_stretch : (k : ℕ) (b : Limited) → slice_get begins k ≡ Some b → s.from ≤ k → k < s.until → is_in part b.start ≡ true
  in_stretch k b at late early =
      let here : get_or begins k b ≡ b = get_or_from_slice_get begins k b b at in
      let starts : nat_lt b.start part.start ≡ false = subst (λ (x : Limited). nat_lt x.start part.start ≡ false) here (behind k b late (slice_get_within begins k b at)) in
      and_from (nat_le part.start b.start) (nat_lt b.start (end_of part)) (sym (not_below part.start b.start) ∙ ap not starts)
      (subst (λ (x : Limited). nat_lt x.start (end_of part) ≡ true) here (inside k b (omega arith) early))

  from_stretch : (k : ℕ) (b : Limited) → slice_get begins k ≡ Some b → is_in part b.start ≡ true → (s.from ≤ k) × (k < s.until)
  from_stretch k b at is =
      let here : get_or begins k b ≡ b = get_or_from_slice_get begins k b b at in
      let parts = and_parts (nat_le part.start b.start) (nat_lt b.start (end_of part)) is in (
        elim (cases_lt k s.from) [
          | inl early ↦ absurd (omega (arith, leb-true part.start b.start parts.0, ltb-true b.start part.start (subst (λ (x : Limited). nat_lt x.start part.start ≡ true) here (before k b (omega arith) early))))
          | inr late ↦ late
        ],
        elim (cases_lt k s.until) [
          | inl early ↦ early
          | inr late ↦ absurd (false≢true (sym (subst (λ (x : Limited). nat_lt x.start (end_of part) ≡ false) here (past k b late (slice_get_within begins k b at))) ∙ parts.1))
        ],
      )

  pub stretch_is : IsStretchIn begins part s
  stretch_is = record {
    ends = ends;
    tells = λ test. same_if_both (list_any test (take (s.until - s.from) (drop s.from begins))) (list_any (λ b. is_in part b.start && test b) begins)
        (λ some.
        let (i, b, at, passes) = any-at test (take (s.until - s.from) (drop s.from begins)) some in
        let (early, there) = part_at begins s.from (s.until - s.from) i b at in
        any-from (λ (x : Limited). is_in part x.start && test x) begins (s.from + i) b there (and_from (is_in part b.start) (test b) (in_stretch (s.from + i) b there (omega arith) (omega (arith, early))) passes))
        (λ some.
        let (k, b, at, passes) = any-at (λ (x : Limited). is_in part x.start && test x) begins some in
        let parts = and_parts (is_in part b.start) (test b) passes in
        let (late, early) = from_stretch k b at parts.0 in
        let there : k ≡ s.from + (k - s.from) = omega (arith, late) in
        any-from test (take (s.until - s.from) (drop s.from begins)) (k - s.from) b
        (at_part begins s.from (s.until - s.from) (k - s.from) b (omega (arith, late, early)) (ap (λ (n : ℕ). slice_get begins n) (sym there) ∙ at)) parts.1);
  }

-- ## Counts

-- Where each of some parts is split, from a first number on and no longer from a second one on.
pub record AreCounted (end : ℕ) (test : Range → Bool) (parts : List Range) (splits joins : List ℕ) : Type 0 where
  pub many : length splits ≡ length parts
  pub too : length joins ≡ length parts
  pub each : (j : ℕ) (part : Range) (split join : ℕ) → slice_get parts j ≡ Some part → slice_get splits j ≡ Some split → slice_get joins j ≡ Some join
      → (test part ≡ (nat_le split end && nat_lt end join)) × (split ≤ join)

pub up_to : (n end : ℕ) → nat_lt n (end + 1) ≡ nat_le n end
up_to n end = elim (cases_lt end n) [
  | inl more ↦ le-ltb n (end + 1) (omega (arith, more)) ∙ sym (lt-leb n end more)
  | inr le ↦ lt-ltb n (end + 1) (omega (arith, le)) ∙ sym (le-leb n end le)
]

counted_both : (end : ℕ) (test : Range → Bool) (parts : List Range) (splits joins : List ℕ) → AreCounted end test parts splits joins
    → count_up_to splits end ≡ count_up_to joins end + count_by test parts
counted_both end test [] [] [] are = omega arith
counted_both end test [] [] (n ∷ joins) are = absurd (omega (arith, are.too))
counted_both end test [] (m ∷ splits) joins are = absurd (omega (arith, are.many))
counted_both end test (p ∷ parts) [] joins are = absurd (omega (arith, are.many))
counted_both end test (p ∷ parts) (m ∷ splits) [] are = absurd (omega (arith, are.too))
counted_both end test (p ∷ parts) (m ∷ splits) (n ∷ joins) are =
    let rest = counted_both end test parts splits joins (record { many = omega (arith, are.many); too = omega (arith, are.too); each = λ j part split join a b c. are.each (suc j) part split join a b c }) in
    let (here, order) = are.each zero p m n refl refl refl in
    let a = count-cons (λ (x : ℕ). nat_lt x (end + 1)) m splits ∙ ap (λ (t : Bool). cond t 1 0 + count_up_to splits end) (up_to m end) in
    let b = count-cons (λ (x : ℕ). nat_lt x (end + 1)) n joins ∙ ap (λ (t : Bool). cond t 1 0 + count_up_to joins end) (up_to n end) in
    let c = count-cons test p parts ∙ ap (λ (t : Bool). cond t 1 0 + count_by test parts) here in
    elim (cases_lt end m) [
      | inl before ↦
          let x : nat_le m end ≡ false = lt-leb m end before in
          let y : nat_le n end ≡ false = lt-leb n end (omega (arith, before, order)) in
          let a0 = a ∙ ap (λ (t : Bool). cond t 1 0 + count_up_to splits end) x in
          let b0 = b ∙ ap (λ (t : Bool). cond t 1 0 + count_up_to joins end) y in
          let c0 = c ∙ ap (λ (t : Bool). cond (t && nat_lt end n) 1 0 + count_by test parts) x in
          omega (arith, a0, b0, c0, rest)
      | inr after ↦
          let x : nat_le m end ≡ true = le-leb m end after in
          let a0 = a ∙ ap (λ (t : Bool). cond t 1 0 + count_up_to splits end) x in
          let c1 = c ∙ ap (λ (t : Bool). cond (t && nat_lt end n) 1 0 + count_by test parts) x in
          elim (cases_lt end n) [
            | inl before_join ↦
                let b0 = b ∙ ap (λ (t : Bool). cond t 1 0 + count_up_to joins end) (lt-leb n end before_join) in
                let c0 = c1 ∙ ap (λ (t : Bool). cond t 1 0 + count_by test parts) (lt-ltb end n before_join) in
                omega (arith, a0, b0, c0, rest)
            | inr shut ↦
                let b0 = b ∙ ap (λ (t : Bool). cond t 1 0 + count_up_to joins end) (le-leb n end shut) in
                let c0 = c1 ∙ ap (λ (t : Bool). cond t 1 0 + count_by test parts) (le-ltb end n shut) in
                omega (arith, a0, b0, c0, rest)
          ]
    ]

-- program headers that go by notes are those that may be split
counted_parts : (limits : List ℕ) (sections : List SectionAt) (end : ℕ) (anchors : List AnchorPosition)
    → count_by (splits_with limits sections end) anchors ≡ count_by (λ part. does_one_move limits sections part end && does_one_stay limits sections part end) (parts_of anchors)
counted_parts limits sections end [] = refl
counted_parts limits sections end (itself ∷ anchors) = count-cons (splits_with limits sections end) itself anchors ∙ plain (counted_parts limits sections end anchors)
  where
    plain : {a b : ℕ} → a ≡ b → 0 + a ≡ b
    plain e = omega (arith, e)
counted_parts limits sections end (table ∷ anchors) = count-cons (splits_with limits sections end) table anchors ∙ plain (counted_parts limits sections end anchors)
  where
    plain : {a b : ℕ} → a ≡ b → 0 + a ≡ b
    plain e = omega (arith, e)
counted_parts limits sections end (section position ∷ anchors) = count-cons (splits_with limits sections end) (section position) anchors ∙ plain (counted_parts limits sections end anchors)
  where
    plain : {a b : ℕ} → a ≡ b → 0 + a ≡ b
    plain e = omega (arith, e)
counted_parts limits sections end (notes part ∷ anchors) =
    let test : Range → Bool = λ p. does_one_move limits sections p end && does_one_stay limits sections p end in
    count-cons (splits_with limits sections end) (notes part) anchors ∙ ap (λ (n : ℕ). cond (test part) 1 0 + n) (counted_parts limits sections end anchors) ∙ sym (count-cons test part (parts_of anchors))

module _ (limits : List ℕ) (sections : List SectionAt) (begins : List Limited) (same : IsPermutation (limited_at limits sections) begins) where
  -- what holds of one that begins in a range
  begun : (part : Range) (test : ℕ → Bool) → list_any (λ (b : Limited). is_in part b.start && test b.limit) begins ≡ list_any (λ s. begins_in part s && test (limit_at limits s.position)) sections
  begun part test =
      sym (list_any-IsPermutation (λ (b : Limited). is_in part b.start && test b.limit) (limited_at limits sections) begins same) ∙ picked sections
    where
      regroup : (a b c : Bool) → (a && (b && c)) ≡ ((a && b) && c)
      regroup true b c = refl
      regroup false b c = refl

      picked : (xs : List SectionAt) → list_any (λ (b : Limited). is_in part b.start && test b.limit) (limited_at limits xs) ≡ list_any (λ s. begins_in part s && test (limit_at limits s.position)) xs
      picked [] = refl
      picked (x ∷ xs) = by_test (has_bytes_at x) (picked xs)
        where
          by_test : (h : Bool) → list_any (λ (b : Limited). is_in part b.start && test b.limit) (limited_at limits xs) ≡ list_any (λ s. begins_in part s && test (limit_at limits s.position)) xs
              → list_any (λ (b : Limited). is_in part b.start && test b.limit) (map (λ (s : SectionAt). let b : Limited = record { start = s.sh_offset; limit = limit_at limits s.position } in b) (cond h (x ∷ filter has_bytes_at xs) (filter has_bytes_at xs)))
              ≡ (((h && is_in part x.sh_offset) && test (limit_at limits x.position)) || list_any (λ s. begins_in part s && test (limit_at limits s.position)) xs)
          by_test true rest = ap (λ (t : Bool). (is_in part x.sh_offset && test (limit_at limits x.position)) || t) rest
          by_test false rest = rest

  any-map : {X : Type 0} (f : X → ℕ) (test : ℕ → Bool) (xs : List X) → list_any test (map f xs) ≡ list_any (λ x. test (f x)) xs
  any-map f test [] = refl
  any-map f test (x ∷ xs) = ap (λ (t : Bool). test (f x) || t) (any-map f test xs)

  -- the least of what is told of those in a stretch
  told_in : (part : Range) (s : Stretch) (f : Limited → ℕ) (end : ℕ) → IsStretchIn begins part s
      → reaches end (numbers_at (map f begins) s.from (s.until - s.from)) ≡ list_any (λ (b : Limited). is_in part b.start && nat_le (f b) end) begins
  told_in part s f end is =
      ap (λ (l : List ℕ). reaches end (take (s.until - s.from) l)) (drop-map f s.from begins)
      ∙ ap (reaches end) (take-map f (s.until - s.from) (drop s.from begins))
      ∙ any-map f (λ (n : ℕ). nat_le n end) (take (s.until - s.from) (drop s.from begins))
      ∙ is.tells (λ (b : Limited). nat_le (f b) end)

  module _ (parts : List Range) (asked : List Stretch) (splits mirrored joins : List ℕ) (stretches : AreStretchesIn begins parts asked)
      (firsts : AreLeastIn (map (λ (b : Limited). b.limit) begins) asked splits) (lasts : AreLeastIn (map (λ (b : Limited). NEVER - b.limit) begins) asked mirrored) (are : AreJoins splits mirrored joins) where
    one_counted : (end : ℕ) → end < NEVER → (j : ℕ) (part : Range) (split join : ℕ) → slice_get parts j ≡ Some part → slice_get splits j ≡ Some split → slice_get joins j ≡ Some join
        → ((does_one_move limits sections part end && does_one_stay limits sections part end) ≡ (nat_le split end && nat_lt end join)) × (split ≤ join)
    one_counted end near j part split join at_part at_split at_join =
        let within : j < length parts = slice_get_within parts j part at_part in
        let (s, at_s) = there asked j (omega (arith, within, stretches.many)) in
        let (mirror, at_mirror) = there mirrored j (omega (arith, within, stretches.many, lasts.many)) in
        let is = stretches.each j part s at_part at_s in
        let moves : nat_le split end ≡ does_one_move limits sections part end =
        (firsts.each j s split at_s at_split).tells end near ∙ told_in part s (λ (b : Limited). b.limit) end is ∙ begun part (λ (n : ℕ). nat_le n end) in
        let back : ℕ = NEVER - 1 - end in
        let stays : nat_le mirror back ≡ does_one_stay limits sections part end =
        (lasts.each j s mirror at_s at_mirror).tells back (omega (arith, near)) ∙ told_in part s (λ (b : Limited). NEVER - b.limit) back is
        ∙ begun part (λ (n : ℕ). nat_le (NEVER - n) back)
        ∙ any_agree (λ (x : SectionAt). begins_in part x && nat_le (NEVER - limit_at limits x.position) back) (λ (x : SectionAt). begins_in part x && nat_lt end (limit_at limits x.position))
        (λ x. ap (λ (t : Bool). begins_in part x && t) (mirror_le (limit_at limits x.position) end near)) sections in
        let value : join ≡ max split (NEVER - mirror) = are.each j split mirror join at_split at_mirror at_join in
        (sym (ap (λ (t : Bool). t && does_one_stay limits sections part end) moves) ∙ ap (λ (t : Bool). nat_le split end && t) (sym stays) ∙ both split mirror join end near value, omega (arith, value))
      where
        there : {X : Type 0} (xs : List X) (k : ℕ) → k < length xs → (x : X) × (slice_get xs k ≡ Some x)
        there [] k early = absurd (omega (arith, early))
        there (x ∷ xs) zero early = (x, refl)
        there (x ∷ xs) (suc k) early = there xs k (omega (arith, early))

        mirror_le : (limit end : ℕ) → end < NEVER → nat_le (NEVER - limit) (NEVER - 1 - end) ≡ nat_lt end limit
        mirror_le limit end near = elim (cases_lt end limit) [
          | inl less ↦ le-leb (NEVER - limit) (NEVER - 1 - end) (omega (arith, less, near)) ∙ sym (lt-ltb end limit less)
          | inr more ↦ lt-leb (NEVER - limit) (NEVER - 1 - end) (omega (arith, more, near)) ∙ sym (le-ltb end limit more)
        ]

        both : (split mirror join end : ℕ) → end < NEVER → join ≡ max split (NEVER - mirror) → (nat_le split end && nat_le mirror (NEVER - 1 - end)) ≡ (nat_le split end && nat_lt end join)
        both split mirror join end near value = elim (cases_lt end split) [
          | inl before ↦ ap (λ (t : Bool). t && nat_le mirror (NEVER - 1 - end)) (lt-leb split end before) ∙ sym (ap (λ (t : Bool). t && nat_lt end join) (lt-leb split end before))
          | inr after ↦ ap (λ (t : Bool). nat_le split end && t) (elim (cases_lt end (NEVER - mirror)) [
            | inl less ↦ le-leb mirror (NEVER - 1 - end) (omega (arith, less, near)) ∙ sym (lt-ltb end join (omega (arith, less, value)))
            | inr more ↦ lt-leb mirror (NEVER - 1 - end) (omega (arith, more, near)) ∙ sym (le-ltb end join (omega (arith, more, after, value)))
          ])
        ]

    pub split_counts : (end : ℕ) → end < NEVER → count_up_to splits end - count_up_to joins end ≡ count_by (λ part. does_one_move limits sections part end && does_one_stay limits sections part end) parts
    split_counts end near =
        let test : Range → Bool = λ part. does_one_move limits sections part end && does_one_stay limits sections part end in
        let all = counted_both end test parts splits joins (record { many = firsts.many ∙ stretches.many; too = are.many ∙ firsts.many ∙ stretches.many; each = one_counted end near }) in
        omega (arith, all)

pub split_limits_are : (limits : List ℕ) (sections : List SectionAt) (begins : List Limited) (anchors : List AnchorPosition) (asked : List Stretch) (splits mirrored joins : List ℕ)
    → IsPermutation (limited_at limits sections) begins → AreStretchesIn begins (parts_of anchors) asked
    → AreLeastIn (map (λ (b : Limited). b.limit) begins) asked splits → AreLeastIn (map (λ (b : Limited). NEVER - b.limit) begins) asked mirrored → AreJoins splits mirrored joins
    → AreSplitLimits limits sections anchors splits joins
split_limits_are limits sections begins anchors asked splits mirrored joins same stretches firsts lasts are = record {
  tells = λ end near. split_counts limits sections begins same (parts_of anchors) asked splits mirrored joins stretches firsts lasts are end near ∙ sym (counted_parts limits sections end anchors);
}

-- ## Which program headers are split

module _ (r : Resized) (are : AreSized r) (limits moved : List ℕ) (end : ℕ) (near : end < NEVER) (many : length limits ≡ length r.image.sections)
    (tells : (position : ℕ) → position < length r.image.sections → is_one_of moved position ≡ nat_le (limit_at limits position) end) where
  abbrev marks : List Bool
  marks = map (is_one_of moved) (positions_of r)

  marks_are : AreMarks r moved marks
  marks_are = record { is = refl }

  mark_tells : (q : ℕ) → is_marked marks q ≡ nat_le (limit_at limits q) end
  mark_tells q =
      let n : ℕ = length r.image.sections in
      let counts : length (counted n) ≡ n = length-counted n in
      elim (cases_lt q n) [
        | inl within ↦ get_or-map (is_one_of moved) (counted n) q 0 false (omega (arith, counts, within)) ∙ ap (is_one_of moved) (slice_index-counted n q within) ∙ tells q within
        | inr past ↦
            get_or_past marks q false (omega (arith, length-map (counted n) (is_one_of moved), counts, past))
            ∙ sym (ap (λ (m : ℕ). nat_le m end) (get_or_past limits q NEVER (omega (arith, many, past))) ∙ lt-leb NEVER end near)
      ]

  one_moves : (part : Range) → does_one_move limits (indexed_sections r.image) part end ≡ list_any (is_marked marks) (positions_in (indexed_sections r.image) part)
  one_moves part =
      any_agree (λ (s : SectionAt). begins_in part s && nat_le (limit_at limits s.position) end) (λ (s : SectionAt). begins_in part s && is_marked marks s.position)
      (λ s. ap (λ (t : Bool). begins_in part s && t) (sym (mark_tells s.position))) (indexed_sections r.image)
      ∙ sym (any-picked (begins_in part) (λ (s : SectionAt). s.position) (is_marked marks) (indexed_sections r.image))

  one_stays : (part : Range) → does_one_stay limits (indexed_sections r.image) part end ≡ list_any (λ position. not (is_marked marks position)) (positions_in (indexed_sections r.image) part)
  one_stays part =
      any_agree (λ (s : SectionAt). begins_in part s && nat_lt end (limit_at limits s.position)) (λ (s : SectionAt). begins_in part s && not (is_marked marks s.position))
      (λ s. ap (λ (t : Bool). begins_in part s && t) (not_le (limit_at limits s.position) ∙ ap not (sym (mark_tells s.position)))) (indexed_sections r.image)
      ∙ sym (any-picked (begins_in part) (λ (s : SectionAt). s.position) (λ position. not (is_marked marks position)) (indexed_sections r.image))
    where
      not_le : (limit : ℕ) → nat_lt end limit ≡ not (nat_le limit end)
      not_le limit = elim (cases_lt end limit) [
        | inl less ↦ lt-ltb end limit less ∙ sym (ap not (lt-leb limit end less))
        | inr more ↦ le-ltb end limit more ∙ sym (ap not (le-leb limit end more))
      ]

  parted_is : (p : SegmentHeader) (l : Anchor) → AreThere r p l → splits_with limits (indexed_sections r.image) end (anchor_position p l) ≡ is_parted moved l
  parted_is p Itself there = refl
  parted_is p HeaderTable there = refl
  parted_is p (OneSection s) there = refl
  parted_is p (Notes ns) there =
      ap (λ (t : Bool). t && does_one_stay limits (indexed_sections r.image) (file_part p) end)
      (one_moves (file_part p) ∙ ap (list_any (is_marked marks)) (sym there.begin) ∙ any_move-is r moved marks are marks_are ns there.there)
      ∙ ap (λ (t : Bool). list_any (is_moved moved) ns && t)
      (one_stays (file_part p) ∙ ap (list_any (λ position. not (is_marked marks position))) (sym there.begin) ∙ any_stay-is r moved marks are marks_are ns there.there)

  pub splits_told : (ps : List SegmentHeader) → count_by (splits_with limits (indexed_sections r.image) end) (map (λ p. anchor_position p (anchor_of r.read r.image p)) ps) ≡ count_by (is_split r moved) ps
  unfolding is_split
  splits_told ps =
      sym (length-filter (splits_with limits (indexed_sections r.image) end) (map (λ p. anchor_position p (anchor_of r.read r.image p)) ps))
      ∙ count_by-map (λ p. anchor_position p (anchor_of r.read r.image p)) (splits_with limits (indexed_sections r.image) end) ps
      ∙ ap length (filter_agree (λ p. splits_with limits (indexed_sections r.image) end (anchor_position p (anchor_of r.read r.image p))) (λ p. is_parted moved (anchor_of r.read r.image p)) (λ p. parted_is p (anchor_of r.read r.image p) (anchor-there r p are)) ps)
      ∙ length-filter (λ p. is_parted moved (anchor_of r.read r.image p)) ps

-- ## One after the other

-- joins before a place
pub record AreJoinsBelow (firsts mirrored : List ℕ) (place : ℕ) (joins : List ℕ) : Type 0 where
  pub many : length joins ≡ place
  pub each : (j first mirror join : ℕ) → slice_get firsts j ≡ Some first → slice_get mirrored j ≡ Some mirror → slice_get joins j ≡ Some join → join ≡ max first (NEVER - mirror)

-- one program header more
pub stretch_next : (begins : List Limited) (parts all : List Range) (part : Range) (asked after : List Stretch) (s : Stretch) → all ≡ parts ++ part ∷ [] → after ≡ asked ++ s ∷ [] → IsStretchIn begins part s → AreStretchesIn begins parts asked
    → AreStretchesIn begins all after
stretch_next begins parts all part asked after s more made is are =
    subst (λ (l : List Range). AreStretchesIn begins l after) (sym more) (subst (λ (l : List Stretch). AreStretchesIn begins (parts ++ part ∷ []) l) (sym made) (record {
      many = omega (arith, length-append asked (s ∷ []), length-append parts (part ∷ []), are.many);
      each = λ j p t at_p at_t. elim (push-at parts part j p at_p) [
        | inl before ↦ elim (push-at asked s j t at_t) [
          | inl there ↦ are.each j p t before there
          | inr (last, same) ↦ absurd (omega (arith, slice_get_within parts j p before, last, are.many))
        ]
        | inr (end, is_part) ↦ elim (push-at asked s j t at_t) [
          | inl there ↦ absurd (omega (arith, slice_get_within asked j t there, end, are.many))
          | inr (last, is_stretch) ↦ subst (λ (q : Range). IsStretchIn begins q t) (sym is_part) (subst (λ (u : Stretch). IsStretchIn begins part u) (sym is_stretch) is)
        ]
      ];
    }))

pub stretch_passed : (begins : List Limited) (parts all : List Range) (asked after : List Stretch) → all ≡ parts → after ≡ asked → AreStretchesIn begins parts asked → AreStretchesIn begins all after
stretch_passed begins parts all asked after same made are = subst (λ (l : List Range). AreStretchesIn begins l after) (sym same) (subst (λ (l : List Stretch). AreStretchesIn begins parts l) (sym made) are)

pub parts_more : (anchors : List AnchorAt) (i : ℕ) (a : AnchorAt) → i < length anchors → get_or anchors i at.Itself ≡ a
    → parts_of (map anchor_model (take (i + 1) anchors)) ≡ parts_of (map anchor_model (take i anchors)) ++ parts_of (anchor_model a ∷ [])
parts_more anchors i a within is =
    ap (λ (l : List AnchorAt). parts_of (map anchor_model l)) (take_more anchors i at.Itself within ∙ ap (λ (x : AnchorAt). take i anchors ++ x ∷ []) is)
    ∙ ap parts_of (map-append anchor_model (take i anchors) (a ∷ []))
    ∙ filter_map-append part_of (map anchor_model (take i anchors)) (anchor_model a ∷ [])

pub parts_passed : (a : AnchorAt) → ((part : Range) → a ≡ at.Notes part → ⊥) → parts_of (anchor_model a ∷ []) ≡ []
parts_passed at.Itself none = refl
parts_passed at.HeaderTable none = refl
parts_passed (at.OneSection position) none = refl
parts_passed (at.Notes part) none = absurd (none part refl)

-- each stretch ends where the list does, or before
pub stretch_ends : (begins : List Limited) (parts : List Range) (asked : List Stretch) → AreStretchesIn begins parts asked → (j : ℕ) (s : Stretch) → slice_get asked j ≡ Some s → s.until ≤ length begins
stretch_ends begins parts asked are j s at =
    let (part, at_part) = there parts j (omega (arith, slice_get_within asked j s at, are.many)) in
    (are.each j part s at_part at).ends
  where
    there : (xs : List Range) (k : ℕ) → k < length xs → (x : Range) × (slice_get xs k ≡ Some x)
    there [] k early = absurd (omega (arith, early))
    there (x ∷ xs) zero early = (x, refl)
    there (x ∷ xs) (suc k) early = there xs k (omega (arith, early))

pub leasts_seen : (numbers seen : List ℕ) (asked also : List Stretch) (answers : List ℕ) → numbers ≡ seen → asked ≡ also → AreLeastIn numbers asked answers → AreLeastIn seen also answers
leasts_seen numbers seen asked also answers same too are = subst (λ (l : List ℕ). AreLeastIn l also answers) same (subst (λ (l : List Stretch). AreLeastIn numbers l answers) too are)

pub joins_seen : (firsts first mirrored mirror joins : List ℕ) → firsts ≡ first → mirrored ≡ mirror → AreJoins firsts mirrored joins → AreJoins first mirror joins
joins_seen firsts first mirrored mirror joins same too are = subst (λ (l : List ℕ). AreJoins l mirror joins) same (subst (λ (l : List ℕ). AreJoins firsts l joins) too are)
