-- Where program headers go, and what is written of them.
use Rattle.std.proofs.Common.{◌≡◌, ℕ, zero, suc, ◌+◌, ◌-◌, ◌*◌, ◌<◌, ◌≤◌, ◌^◌, max, Bool, true, false, not, ◌&&◌, ◌||◌, ◌⊎◌, inl, inr, cond, List, [], ◌∷◌, ◌++◌, map, length, take, drop, get_or, refl, sym, ap, ◌∙◌, Option, Some, None, All, MatchOption, option_map, arith}
use Rattle.std.specs.Prelude.{count_by, filter, fold, if◌then◌else◌, nat_lt, ◌==◌, IsPermutation}
use Rattle.std.specs.List.{cons_option, flat_map, list_all, list_any, slice_get}
use Rattle.std.specs.Option.{option_to_list}
use Rattle.std.proofs.lemmas.Bool.{and_from, and_parts, and_right, eq-eqb, eqb-false, eqb-true, false_from_ne_true, lt-ltb, ltb-true, ne_eqb, true≢false}
use Rattle.std.proofs.lemmas.List.{append-nil, append_assoc, at_drop_more, length-map, take_more}
use Rattle.std.proofs.lemmas.List.Concat.{flat_map-append}
use Rattle.std.proofs.lemmas.List.Elements.{All-head, All-tail, All-weaker}
use Rattle.std.proofs.lemmas.List.Folds.{list_all-append}
use Rattle.std.proofs.lemmas.Option.{get_or_from_slice_get, slice_get_cases, slice_get_within}
use Rattle.std.proofs.lemmas.List.Sums.{sum_by-cons}
use Rattle.patch_bytes.specs.declared.number.Wide.{Wide}
use Rattle.patch_bytes.specs.declared.number.Wide.TheVariants.{W32, W64}
use Rattle.elf_format.specs.declared.constants.TheConstants.{PN_XNUM, SHN_LORESERVE}
use Rattle.elf_layout_plan.specs.declared.fault.LayoutFault.{LayoutFault}
use Rattle.elf_layout_plan.specs.declared.fault.LayoutFault.TheVariants as faults
use Rattle.elf_format.specs.File.{is_loaded}
use Rattle.elf_format.specs.declared.form.Form.{Form}
use Rattle.elf_format.specs.Form.{by_class}
use Rattle.elf_format.specs.Places.{Place, file_range}
use Rattle.elf_format.specs.Placement.{file_part}
use Rattle.elf_format.specs.Ranges.{end_of}
use Rattle.elf_format.specs.Records.{segment_header_size}
use Rattle.elf_format.specs.declared.records.SegmentHeader.{SegmentHeader}
use Rattle.elf_layout_plan.specs.Added.{added_loads, greatest, header_count}
use Rattle.elf_layout_plan.specs.Anchors.{HeaderTable, Itself, Anchor, Notes, OneSection, is_moved, anchor_of, moved_notes, staying_notes}
use Rattle.elf_image.specs.Kept.{KeptSection, kept_sections}
use Rattle.elf_layout_plan.specs.Memory.{Resized, sized_sections}
use Rattle.elf_layout_plan.specs.Plan.{does_place_fit, does_plan_fit, does_segment_fit, plan_for}
use Rattle.elf_layout_plan.specs.Sizes.{fits_field}
use Rattle.elf_layout_plan.specs.Standing.{place_in, places, sections_offset, table_offset}
use Rattle.elf_layout_plan.specs.Written.{Target, address_for, behind_last_load, first_in_file, anchored_to, places_of_kept, resized_table, target_at, targets_of, targets_of_notes, targets_over, written_from, written_segments}
use Rattle.elf_layout.specs.declared.headings.Headings.{Headings}
use Rattle.elf_layout.specs.declared.targets.TargetAt.{TargetAt}
use Rattle.elf_layout.specs.declared.targets.Targets.{Targets}
use Rattle.elf_layout_segments.specs.Inner.{AreMarks}
use Rattle.elf_layout_segments.specs.AnchorPositions.{AnchorPosition, notes, anchor_position}
use Rattle.elf_layout.specs.Inner.{IsPastField, StandsTooFar}
use Rattle.elf_layout_segments.specs.declared.starts.Begin.{Begin}
use Rattle.elf_layout_segments.specs.SplitCounts.{chosen_begins, is_chosen}
use Rattle.elf_layout_segments.specs.Sections.{AreSized, indexed_sections}
use Rattle.elf_layout.specs.Targets.{AreBegins, Begins, IsMisfit, Span, added_behind, do_headings_fit, does_table_fit, fits_word, header_at, headings_at, headings_for, headings_found, headings_model, is_anchored_well, is_physical_well, is_well_at, left_behind, sized_table, span_over, target_of_span, targets_at, targets_found, targets_over_notes, targets_model}
use Rattle.elf_layout.proofs.SpanSteps.{span_found, span_step, span_with}
use Rattle.elf_layout_segments.proofs.ForCallers.{AreNotesOf, AreThere, IsThere, begins_as_positions, anchor-there, length-sized, marked-is}
use Rattle.elf_image.proofs.ForCallers.KeptSections.{length-kept}

-- ## Several places

-- of places, the first and the end of the last
span_is : (first : Place) (end : ℕ) (ts : List Place)
    → fold span_with (Some (record { first = first; end = end })) ts ≡ Some (record { first = first_in_file first ts; end = greatest end (map (λ t. end_of (file_range t)) ts) })
unfolding first_in_file
span_is first end [] = refl
span_is first end (t ∷ ts) = span_is (if nat_lt t.sh_offset first.sh_offset then t else first) (max end (end_of (file_range t))) ts

span-over : (ts : List Place) → option_to_list (option_map target_of_span (fold span_with None ts)) ≡ targets_over ts
span-over [] = refl
span-over (t ∷ ts) = ap (λ o. option_to_list (option_map target_of_span o)) (span_is t (end_of (file_range t)) ts)

-- the place of one more section
abbrev span_at : List Place → Option Span → ℕ → Option Span
span_at all span position = elim (slice_get all position) [ Some t ↦ span_with span t | None ↦ span ]

-- the place of one more section, if it is one that moves, or one that stays
chosen_step : List Place → List Bool → Bool → Option Span → ℕ → Option Span
chosen_step all marks moving span position = if is_chosen moving marks position then span_at all span position else span

-- ## Notes that move

-- notes have places: none moves, or the first place is that of one that moves
record HasPlaceOf (all : List Place) (moves : KeptSection → Bool) (ns : List KeptSection) : Type 0 where
  first : Place
  rest : List Place
  are : places_of_kept all (filter moves ns) ≡ first ∷ rest
  some : list_any moves ns ≡ true

record HasNone (all : List Place) (moves : KeptSection → Bool) (ns : List KeptSection) : Type 0 where
  are : places_of_kept all (filter moves ns) ≡ []
  none : list_any moves ns ≡ false

places_or_none : (all : List Place) (moves : KeptSection → Bool) (ns : List KeptSection) → All (λ s. s.position < length all) ns → HasPlaceOf all moves ns ⊎ HasNone all moves ns
places_or_none all moves [] within = inr (record { are = refl; none = refl })
places_or_none all moves (s ∷ ns) within =
    by_test (moves s) refl (slice_get_cases all s.position).1 (places_or_none all moves ns (All-tail (λ (x : KeptSection). x.position < length all) s ns within))
    (All-head (λ (x : KeptSection). x.position < length all) s ns within)
  where
    by_test : (b : Bool) → moves s ≡ b → ((t : Place) × (s.position < length all) × (slice_get all s.position ≡ Some t) × (get_or all s.position t ≡ t)) ⊎ ((length all ≤ s.position) × (slice_get all s.position ≡ None))
        → HasPlaceOf all moves ns ⊎ HasNone all moves ns → s.position < length all → HasPlaceOf all moves (s ∷ ns) ⊎ HasNone all moves (s ∷ ns)
    by_test true is (inl found) rest inside = inl (record {
      first = found.0;
      rest = places_of_kept all (filter moves ns);
      are = ap (λ (b : Bool). places_of_kept all (cond b (s ∷ filter moves ns) (filter moves ns))) is ∙ ap (λ (o : Option Place). cons_option o (places_of_kept all (filter moves ns))) found.2;
      some = ap (λ (b : Bool). b || list_any moves ns) is;
    })
    by_test true is (inr past) rest inside = absurd (omega (arith, past.0, inside))
    by_test false is place (inl some) inside = inl (record {
      first = some.first;
      rest = some.rest;
      are = ap (λ (b : Bool). places_of_kept all (cond b (s ∷ filter moves ns) (filter moves ns))) is ∙ some.are;
      some = ap (λ (b : Bool). b || list_any moves ns) is ∙ some.some;
    })
    by_test false is place (inr none) inside = inr (record {
      are = ap (λ (b : Bool). places_of_kept all (cond b (s ∷ filter moves ns) (filter moves ns))) is ∙ none.are;
      none = ap (λ (b : Bool). b || list_any moves ns) is ∙ none.none;
    })

module _ (r : Resized) (moved : List ℕ) (marks : List Bool) (are : AreSized r) (h : AreMarks r moved marks) (all : List Place) (long : length all ≡ length r.image.sections)
    (begins : Begins) (begin : AreBegins r marks begins) where
  -- the sections that move, or those that stay
  abbrev chosen : Bool → KeptSection → Bool
  chosen moving s = if moving then is_moved moved s else not (is_moved moved s)

  span_kept : (moving : Bool) (ns : List KeptSection) (o : Option Span) → All (IsThere r) ns
      → fold (chosen_step all marks moving) o (map (λ (s : KeptSection). s.position) ns) ≡ fold span_with o (places_of_kept all (filter (chosen moving) ns))
  unfolding chosen_step
  span_kept moving [] o there = refl
  span_kept moving (s ∷ ns) o there =
      ap (λ b. fold (chosen_step all marks moving) (if (if moving then b else not b) then elim (slice_get all s.position) as (λ _. Option Span) [ Some t ↦ span_with o t | None ↦ o ] else o) (map (λ (s : KeptSection). s.position) ns))
      (marked-is r moved marks are h s (All-head (IsThere r) s ns there))
      ∙ by_tests (chosen moving s) (slice_get all s.position) (λ x. span_kept moving ns x (All-tail (IsThere r) s ns there)) refl
    where
      by_tests : (b : Bool) (at : Option Place)
          → ((x : Option Span) → fold (chosen_step all marks moving) x (map (λ (s : KeptSection). s.position) ns) ≡ fold span_with x (places_of_kept all (filter (chosen moving) ns)))
          → slice_get all s.position ≡ at
          → fold (chosen_step all marks moving) (if b then elim at as (λ _. Option Span) [ Some t ↦ span_with o t | None ↦ o ] else o) (map (λ (s : KeptSection). s.position) ns)
          ≡ fold span_with o (places_of_kept all (cond b (s ∷ filter (chosen moving) ns) (filter (chosen moving) ns)))
      by_tests false at rest is = rest o
      by_tests true None rest is = rest o ∙ ap (λ x. fold span_with o (cons_option x (places_of_kept all (filter (chosen moving) ns)))) (sym is)
      by_tests true (Some t) rest is = rest (span_with o t) ∙ ap (λ x. fold span_with o (cons_option x (places_of_kept all (filter (chosen moving) ns)))) (sym is)

  module _ (p : SegmentHeader) (ns : List KeptSection) (these : AreNotesOf r p ns) where
    spans_are : (moving : Bool) (found : List Begin) → IsPermutation (chosen_begins moving marks (indexed_sections r.image)) found
        → span_over all (file_part p) found ≡ fold span_with None (places_of_kept all (filter (chosen moving) ns))
    unfolding span_step chosen_step
    spans_are moving found same =
        span_found all (file_part p) moving marks r.image found same
        ∙ begins_as_positions marks moving (file_part p) (span_at all) (indexed_sections r.image) None
        ∙ ap (fold (chosen_step all marks moving) None) (sym these.begin)
        ∙ span_kept moving ns None these.there

    within : All (λ s. s.position < length all) ns
    within = All-weaker (IsThere r) (λ s. s.position < length all)
        (λ s there. let inside : s.position < length (kept_sections r.image) = slice_get_within (kept_sections r.image) s.position s there in omega (arith, inside, length-kept r.image are.numbered, long))
        ns these.there

    notes_go : targets_at all begins (notes (file_part p)) ≡ targets_of_notes moved all ns
    unfolding targets_at
    notes_go =
        ap (λ o. targets_over_notes o (span_over all (file_part p) begins.moving)) (spans_are false begins.staying begin.staying)
        ∙ ap (targets_over_notes (fold span_with None (places_of_kept all (filter (chosen false) ns)))) (spans_are true begins.moving begin.moving)
        ∙ by_places (places_or_none all (is_moved moved) ns within)
      where
        by_places : HasPlaceOf all (is_moved moved) ns ⊎ HasNone all (is_moved moved) ns
            → targets_over_notes (fold span_with None (places_of_kept all (filter (chosen false) ns))) (fold span_with None (places_of_kept all (filter (chosen true) ns))) ≡ targets_of_notes moved all ns
        by_places (inl some) =
            let stay : List Place = places_of_kept all (filter (chosen false) ns) in
            let ts : List Place = some.first ∷ some.rest in
            let end : ℕ = end_of (file_range some.first) in
            let span : Span = record { first = first_in_file some.first some.rest; end = greatest end (map (λ (t : Place). end_of (file_range t)) some.rest) } in
            ap (λ (us : List Place). targets_over_notes (fold span_with None stay) (fold span_with None us)) some.are
            ∙ ap (targets_over_notes (fold span_with None stay)) (span_is some.first end some.rest)
            ∙ ap (λ (l : List Target). l ++ target_of_span span ∷ []) (span-over stay)
            ∙ sym (ap (λ (us : List Place). targets_over stay ++ targets_over us) some.are)
            ∙ sym (ap (λ (b : Bool). if b then targets_over stay ++ targets_over (places_of_kept all (filter (is_moved moved) ns)) else []) some.some)
        by_places (inr none) =
            ap (λ (ts : List Place). targets_over_notes (fold span_with None (places_of_kept all (filter (chosen false) ns))) (fold span_with None ts)) none.are
            ∙ sym (ap (λ (b : Bool). if b then targets_over (places_of_kept all (staying_notes moved ns)) ++ targets_over (places_of_kept all (moved_notes moved ns)) else []) none.none)

-- a place for each section
as_many : (r : Resized) (moved : List ℕ) → AreSized r → length (places r moved) ≡ length r.image.sections
unfolding places
as_many r moved are = length-map (sized_sections r) (place_in r moved) ∙ length-sized r are

one_goes : (o : Option Place) → option_to_list (option_map target_at o) ≡ map target_at (cons_option o [])
one_goes None = refl
one_goes (Some t) = refl

-- ## Targets that were found

module _ (form : Form) (p alone : SegmentHeader) where
  found_well : (a b : Option TargetAt) → list_all (is_well_at form p) (targets_found (record { first = a; second = b })) ≡ list_all (is_anchored_well form p) (targets_model (record { first = a; second = b }))
  unfolding is_well_at
  found_well None None = refl
  found_well None (Some u) = refl
  found_well (Some t) None = refl
  found_well (Some t) (Some u) = refl

  found_same : (a b : Option TargetAt) → headings_found form p alone (targets_found (record { first = a; second = b })) ≡ headings_at form p alone (targets_model (record { first = a; second = b }))
  unfolding header_at
  found_same None None = refl
  found_same None (Some u) = refl
  found_same (Some t) None = refl
  found_same (Some t) (Some u) = refl

  abbrev AreFound : Option Headings → Targets → Type 0
  AreFound o found = MatchOption o (list_all (is_well_at form p) (targets_found found) ≡ false) (λ h. (headings_model h ≡ headings_found form p alone (targets_found found)) × (list_all (is_well_at form p) (targets_found found) ≡ true))

  pub headings_found-are : (all : List Place) (begins : Begins) (size : ℕ) (k : AnchorPosition) (o : Option Headings) (found : Targets) → AreFound o found
      → targets_model found ≡ targets_at all begins k → alone ≡ sized_table size p k → does_table_fit size k ≡ true
      → MatchOption o (do_headings_fit form all begins size p k ≡ false) (λ h. (headings_model h ≡ headings_for form all begins size p k) × (do_headings_fit form all begins size p k ≡ true))
  unfolding headings_for do_headings_fit
  headings_found-are all begins size k None found is same sized fits =
      and_right (does_table_fit size k) (list_all (is_anchored_well form p) (targets_at all begins k))
      (sym (found_well found.first found.second ∙ ap (list_all (is_anchored_well form p)) same) ∙ is)
  headings_found-are all begins size k (Some h) found is same sized fits = (
    is.0 ∙ found_same found.first found.second ∙ ap (headings_at form p alone) same ∙ ap (λ q. headings_at form p q (targets_at all begins k)) sized,
    and_from (does_table_fit size k) (list_all (is_anchored_well form p) (targets_at all begins k)) fits (sym (found_well found.first found.second ∙ ap (list_all (is_anchored_well form p)) same) ∙ is.1),
  )

-- ## What is written of a program header

word-fits : (form : Form) (n : ℕ) → fits_field form n ≡ true → fits_word n ≡ true
word-fits form n h = lt-ltb n (2 ^ 64) (by_wide form.wide h)
  where
    by_wide : (w : Wide) → nat_lt n (by_class w (2 ^ 32) (2 ^ 64)) ≡ true → n < 2 ^ 64
    by_wide W32 e = omega (arith, ltb-true n (2 ^ 32) e)
    by_wide W64 e = ltb-true n (2 ^ 64) e

-- a header that fits has a physical address and a size that fit
parts_fit : (form : Form) (p : SegmentHeader) → does_segment_fit form p ≡ true → (fits_word p.p_paddr ≡ true) × (fits_word p.p_filesz ≡ true)
parts_fit form p h =
    let f : ℕ → Bool = fits_field form in
    let a = and_parts (f p.p_offset) (list_all f (p.p_vaddr ∷ p.p_paddr ∷ p.p_filesz ∷ p.p_memsz ∷ p.p_align ∷ [])) h in
    let b = and_parts (f p.p_vaddr) (list_all f (p.p_paddr ∷ p.p_filesz ∷ p.p_memsz ∷ p.p_align ∷ [])) a.1 in
    let c = and_parts (f p.p_paddr) (list_all f (p.p_filesz ∷ p.p_memsz ∷ p.p_align ∷ [])) b.1 in
    let d = and_parts (f p.p_filesz) (list_all f (p.p_memsz ∷ p.p_align ∷ [])) c.1 in
    (word-fits form p.p_paddr c.0, word-fits form p.p_filesz d.0)

all_anchored_well : (form : Form) (p : SegmentHeader) (ts : List Target) → list_all (does_segment_fit form) (map (anchored_to form p) ts) ≡ true → list_all (is_anchored_well form p) ts ≡ true
unfolding is_physical_well
all_anchored_well form p [] fits = refl
all_anchored_well form p (t ∷ ts) fits =
    let f = and_parts (does_segment_fit form (anchored_to form p t)) (list_all (does_segment_fit form) (map (anchored_to form p) ts)) fits in
    let w = parts_fit form (anchored_to form p t) f.0 in
    and_from (is_anchored_well form p t) (list_all (is_anchored_well form p) ts)
    (and_from (is_physical_well form p (address_for p t)) (fits_word t.part.size) w.0 w.1)
    (all_anchored_well form p ts f.1)

module _ (r : Resized) (moved : List ℕ) (marks : List Bool) (are : AreSized r) (h : AreMarks r moved marks) (begins : Begins) (begin : AreBegins r marks begins) (p : SegmentHeader) where
  abbrev form : Form
  form = r.image.form

  abbrev table_bytes : ℕ
  table_bytes = header_count r moved * segment_header_size r.image.form

  anchor_goes : (l : Anchor) → AreThere r p l → targets_at (places r moved) begins (anchor_position p l) ≡ (elim l as (λ _. List Target) [
    | Itself ↦ []
    | HeaderTable ↦ []
    | OneSection s ↦ map target_at (places_of_kept (places r moved) (s ∷ []))
    | Notes ns ↦ targets_of_notes moved (places r moved) ns
  ])
  unfolding targets_at
  anchor_goes Itself there = refl
  anchor_goes HeaderTable there = refl
  anchor_goes (OneSection s) there = one_goes (slice_get (places r moved) s.position)
  anchor_goes (Notes ns) there = notes_go r moved marks are h (places r moved) (as_many r moved are) begins begin p ns there

  targets-are : targets_at (places r moved) begins (anchor_position p (anchor_of r.read r.image p)) ≡ targets_of r moved p
  unfolding targets_of
  targets-are = anchor_goes (anchor_of r.read r.image p) (anchor-there r p are)

  table_sized : (l : Anchor) → sized_table table_bytes p (anchor_position p l) ≡ (elim l as (λ _. SegmentHeader) [ HeaderTable ↦ record p { p_filesz = table_bytes; p_memsz = table_bytes } | _ ↦ p ])
  table_sized Itself = refl
  table_sized HeaderTable = refl
  table_sized (OneSection s) = refl
  table_sized (Notes ns) = refl

  headings_of_targets : (alone : SegmentHeader) (ts : List Target) → headings_at form p alone ts ≡ (elim ts as (λ _. List SegmentHeader) [ [] ↦ alone ∷ [] | t ∷ us ↦ map (anchored_to form p) (t ∷ us) ])
  headings_of_targets alone [] = refl
  headings_of_targets alone (t ∷ ts) = refl

  written-is : headings_for form (places r moved) begins table_bytes p (anchor_position p (anchor_of r.read r.image p)) ≡ written_from r moved p
  unfolding headings_for
  written-is =
      ap (headings_at form p (sized_table table_bytes p (anchor_position p (anchor_of r.read r.image p)))) targets-are
      ∙ ap (λ q. headings_at form p q (targets_of r moved p)) (table_sized (anchor_of r.read r.image p))
      ∙ headings_of_targets (resized_table r moved p) (targets_of r moved p)

  -- what fits its fields was written well
  table_fits : (l : Anchor) → list_all (does_segment_fit form) (headings_at form p (sized_table table_bytes p (anchor_position p l)) (targets_at (places r moved) begins (anchor_position p l))) ≡ true → does_table_fit table_bytes (anchor_position p l) ≡ true
  unfolding targets_at
  table_fits Itself fits = refl
  table_fits HeaderTable fits = (parts_fit form (record p { p_filesz = table_bytes; p_memsz = table_bytes }) (and_parts (does_segment_fit form (record p { p_filesz = table_bytes; p_memsz = table_bytes })) true fits).0).1
  table_fits (OneSection s) fits = refl
  table_fits (Notes ns) fits = refl

  targets_fit : (alone : SegmentHeader) (ts : List Target) → list_all (does_segment_fit form) (headings_at form p alone ts) ≡ true → list_all (is_anchored_well form p) ts ≡ true
  targets_fit alone [] fits = refl
  targets_fit alone (t ∷ ts) fits = all_anchored_well form p (t ∷ ts) fits

  fits-is : list_all (does_segment_fit form) (written_from r moved p) ≡ true → do_headings_fit form (places r moved) begins table_bytes p (anchor_position p (anchor_of r.read r.image p)) ≡ true
  unfolding do_headings_fit headings_for
  fits-is fits =
      let k : AnchorPosition = anchor_position p (anchor_of r.read r.image p) in
      let made : list_all (does_segment_fit form) (headings_at form p (sized_table table_bytes p k) (targets_at (places r moved) begins k)) ≡ true = ap (list_all (does_segment_fit form)) written-is ∙ fits in
      and_from (does_table_fit table_bytes k) (list_all (is_anchored_well form p) (targets_at (places r moved) begins k))
      (table_fits (anchor_of r.read r.image p) made)
      (targets_fit (sized_table table_bytes p k) (targets_at (places r moved) begins k) made)

-- ## Headers behind the last one that is loaded

behind_keeps : (q : SegmentHeader → Bool) (more ps : List SegmentHeader) → list_all q (behind_last_load more ps) ≡ true → list_all q ps ≡ true
unfolding behind_last_load
behind_keeps q more [] fits = refl
behind_keeps q more (p ∷ ps) fits = by_test (is_loaded p && not (list_any is_loaded ps)) fits (behind_keeps q more ps)
  where
    by_test : (b : Bool) → list_all q (elim b as (λ _. List SegmentHeader) [ true ↦ p ∷ more ++ ps | _ ↦ p ∷ behind_last_load more ps ]) ≡ true
        → (list_all q (behind_last_load more ps) ≡ true → list_all q ps ≡ true) → (q p && list_all q ps) ≡ true
    by_test true all rest =
        let parts = and_parts (q p) (list_all q (more ++ ps)) all in
        and_from (q p) (list_all q ps) parts.0 (and_parts (list_all q more) (list_all q ps) (sym (list_all-append q more ps) ∙ parts.1)).1
    by_test false all rest =
        let parts = and_parts (q p) (list_all q (behind_last_load more ps)) all in
        and_from (q p) (list_all q ps) parts.0 (rest parts.1)

flat_all : {A B : Type 0} → (q : B → Bool) (f : A → List B) (xs : List A) (i : ℕ) (x : A) → i < length xs → get_or xs i x ≡ x → list_all q (flat_map f xs) ≡ true → list_all q (f x) ≡ true
flat_all q f [] i x within at h = absurd (omega (arith, within))
flat_all q f (y ∷ xs) zero x within at h = ap (λ z. list_all q (f z)) (sym at) ∙ (and_parts (list_all q (f y)) (list_all q (flat_map f xs)) (sym (list_all-append q (f y) (flat_map f xs)) ∙ h)).0
flat_all q f (y ∷ xs) (suc i) x within at h =
    flat_all q f xs i x (omega (arith, within)) at (and_parts (list_all q (f y)) (list_all q (flat_map f xs)) (sym (list_all-append q (f y) (flat_map f xs)) ∙ h)).1

-- of a plan that fits, the headers fit
plan_parts : (r : Resized) (moved : List ℕ) (rounds looked : ℕ) → does_plan_fit r.image.form (plan_for r rounds looked moved) ≡ true
    → list_all (does_segment_fit r.image.form) (written_segments r moved) ≡ true
unfolding does_plan_fit plan_for
plan_parts r moved rounds looked h =
    let form : Form = r.image.form in
    let A : Bool = list_all (does_place_fit form) (places r moved) in
    let B : Bool = list_all (does_segment_fit form) (written_segments r moved) in
    let D : Bool = fits_field form (table_offset r moved) in
    let E : Bool = fits_field form (sections_offset r moved) in
    let F : Bool = nat_lt (length (written_segments r moved)) PN_XNUM in
    let G : Bool = nat_lt (length (places r moved)) SHN_LORESERVE in
    let f = and_parts (A && B && D && E && F) G h in
    let e = and_parts (A && B && D && E) F f.0 in
    let d = and_parts (A && B && D) E e.0 in
    let c = and_parts (A && B) D d.0 in
    (and_parts A B c.0).1

-- ## Steps of the walk over the program headers

module _ (r : Resized) (moved : List ℕ) (marks : List Bool) (are : AreSized r) (h : AreMarks r moved marks) (begins : Begins) (begin : AreBegins r marks begins) (form : Form) (all : List Place) (size : ℕ) (k : AnchorPosition) (p : SegmentHeader)
    (formed : form ≡ r.image.form) (stand : all ≡ places r moved) (sized : size ≡ header_count r moved * segment_header_size r.image.form) (lead : k ≡ anchor_position p (anchor_of r.read r.image p)) where
  pub heading_written : headings_for form all begins size p k ≡ written_from r moved p
  heading_written =
      ap (λ f. headings_for f all begins size p k) formed ∙ ap (λ l. headings_for r.image.form l begins size p k) stand ∙ ap (λ n. headings_for r.image.form (places r moved) begins n p k) sized
      ∙ ap (headings_for r.image.form (places r moved) begins (header_count r moved * segment_header_size r.image.form) p) lead ∙ written-is r moved marks are h begins begin p

  fit_same : do_headings_fit form all begins size p k ≡ do_headings_fit r.image.form (places r moved) begins (header_count r moved * segment_header_size r.image.form) p (anchor_position p (anchor_of r.read r.image p))
  fit_same =
      ap (λ f. do_headings_fit f all begins size p k) formed ∙ ap (λ l. do_headings_fit r.image.form l begins size p k) stand ∙ ap (λ n. do_headings_fit r.image.form (places r moved) begins n p k) sized
      ∙ ap (do_headings_fit r.image.form (places r moved) begins (header_count r moved * segment_header_size r.image.form) p) lead

  pub heading_past : (i : ℕ) → slice_get r.image.segments i ≡ Some p → do_headings_fit form all begins size p k ≡ false
      → (rounds looked : ℕ) → does_plan_fit r.image.form (plan_for r rounds looked moved) ≡ false
  unfolding written_segments
  heading_past i there misfit rounds looked =
      let within : i < length r.image.segments = slice_get_within r.image.segments i p there in
      let at : get_or r.image.segments i p ≡ p = get_or_from_slice_get r.image.segments i p p there in
      false_from_ne_true (does_plan_fit r.image.form (plan_for r rounds looked moved)) (λ plan.
      let parts = plan_parts r moved rounds looked plan in
      let fits : list_all (does_segment_fit r.image.form) (written_from r moved p) ≡ true =
      flat_all (does_segment_fit r.image.form) (written_from r moved) r.image.segments i p within at
      (behind_keeps (does_segment_fit r.image.form) (map (λ load. load.header) (added_loads r moved)) (flat_map (written_from r moved) r.image.segments) parts) in
      true≢false (sym (fits-is r moved marks are h begins begin p fits) ∙ sym fit_same ∙ misfit))

pub written-more : (r : Resized) (moved : List ℕ) (i : ℕ) (p : SegmentHeader) → slice_get r.image.segments i ≡ Some p
    → flat_map (written_from r moved) (take (i + 1) r.image.segments) ≡ flat_map (written_from r moved) (take i r.image.segments) ++ written_from r moved p
written-more r moved i p there =
    let within : i < length r.image.segments = slice_get_within r.image.segments i p there in
    let at : get_or r.image.segments i p ≡ p = get_or_from_slice_get r.image.segments i p p there in
    ap (flat_map (written_from r moved)) (take_more r.image.segments i p within ∙ ap (λ q. take i r.image.segments ++ q ∷ []) at)
    ∙ flat_map-append (written_from r moved) (take i r.image.segments) (p ∷ [])
    ∙ ap (λ l. flat_map (written_from r moved) (take i r.image.segments) ++ l) (append-nil (written_from r moved p))

-- ## Steps of the walk that puts headers behind the last one that is loaded

counts : (p : SegmentHeader) (ps : List SegmentHeader) → count_by is_loaded (p ∷ ps) ≡ cond (is_loaded p) 1 0 + count_by is_loaded ps
counts p ps = sum_by-cons (λ q. cond (is_loaded q) 1 0) p ps

none_loaded : (ps : List SegmentHeader) → list_any is_loaded ps ≡ not (count_by is_loaded ps == 0)
none_loaded [] = refl
none_loaded (p ∷ ps) = by_test (is_loaded p) (none_loaded ps) ∙ ap (λ n. not (n == 0)) (sym (counts p ps))
  where
    by_test : (b : Bool) → list_any is_loaded ps ≡ not (count_by is_loaded ps == 0) → (b || list_any is_loaded ps) ≡ not ((cond b 1 0 + count_by is_loaded ps) == 0)
    by_test true rest = ap not (sym (ne_eqb (1 + count_by is_loaded ps) 0 (λ e. absurd (omega (arith, e)))))
    by_test false rest = rest ∙ ap (λ n. not (n == 0)) (let e : count_by is_loaded ps ≡ 0 + count_by is_loaded ps = omega arith in e)

behind_none : (more ps : List SegmentHeader) → list_any is_loaded ps ≡ false → behind_last_load more ps ≡ ps
unfolding behind_last_load
behind_none more [] none = refl
behind_none more (p ∷ ps) none = by_test (is_loaded p) none (behind_none more ps)
  where
    by_test : (b : Bool) → (b || list_any is_loaded ps) ≡ false → (list_any is_loaded ps ≡ false → behind_last_load more ps ≡ ps)
        → (elim (b && not (list_any is_loaded ps)) as (λ _. List SegmentHeader) [ true ↦ p ∷ more ++ ps | _ ↦ p ∷ behind_last_load more ps ]) ≡ p ∷ ps
    by_test true e rest = absurd (true≢false e)
    by_test false e rest = ap (λ l. p ∷ l) (rest e)

-- a header with what is put behind it, and then the rest
behind_step : (more : List SegmentHeader) (p : SegmentHeader) (ps : List SegmentHeader) (left : ℕ) → left ≡ count_by is_loaded (p ∷ ps)
    → (behind_last_load more (p ∷ ps) ≡ (p ∷ added_behind more p left) ++ behind_last_load more ps) × (left_behind p left ≡ count_by is_loaded ps)
unfolding behind_last_load
behind_step more p ps left e =
    by_test (is_loaded p) (count_by is_loaded ps) (none_loaded ps) (e ∙ counts p ps) (behind_none more ps)
  where
    by_test : (b : Bool) (n : ℕ) → list_any is_loaded ps ≡ not (n == 0) → left ≡ cond b 1 0 + n → (list_any is_loaded ps ≡ false → behind_last_load more ps ≡ ps)
        → ((elim (b && not (list_any is_loaded ps)) as (λ _. List SegmentHeader) [ true ↦ p ∷ more ++ ps | _ ↦ p ∷ behind_last_load more ps ])
        ≡ (p ∷ (if b && left == 1 then more else [])) ++ behind_last_load more ps) × ((if b then left - 1 else left) ≡ n)
    by_test false n any is none = (refl, omega (arith, is))
    by_test true n any is none = (last (n == 0) refl, omega (arith, is))
      where
        last : (z : Bool) → (n == 0) ≡ z
            → (elim (not (list_any is_loaded ps)) as (λ _. List SegmentHeader) [ true ↦ p ∷ more ++ ps | _ ↦ p ∷ behind_last_load more ps ])
            ≡ (p ∷ (if left == 1 then more else [])) ++ behind_last_load more ps
        last true zero_left =
            let n_is : n ≡ 0 = eqb-true n 0 zero_left in
            let nothing : list_any is_loaded ps ≡ false = any ∙ ap not zero_left in
            let one : (left == 1) ≡ true = eq-eqb left 1 (omega (arith, is, n_is)) in
            ap (λ c. elim (not c) as (λ _. List SegmentHeader) [ true ↦ p ∷ more ++ ps | _ ↦ p ∷ behind_last_load more ps ]) nothing
            ∙ ap (λ l. p ∷ more ++ l) (sym (none nothing))
            ∙ ap (λ c. (p ∷ (if c then more else [])) ++ behind_last_load more ps) (sym one)
        last false some_left =
            let something : list_any is_loaded ps ≡ true = any ∙ ap not some_left in
            let not_one : (left == 1) ≡ false = ne_eqb left 1 (λ f. eqb-false n 0 some_left (omega (arith, is, f))) in
            ap (λ c. elim (not c) as (λ _. List SegmentHeader) [ true ↦ p ∷ more ++ ps | _ ↦ p ∷ behind_last_load more ps ]) something
            ∙ ap (λ c. (p ∷ (if c then more else [])) ++ behind_last_load more ps) (sym not_one)

-- the rest of a list, one header on
pub behind-more : (more ps : List SegmentHeader) (i : ℕ) (d : SegmentHeader) (left : ℕ) (made new : List SegmentHeader) → i < length ps
    → made ++ behind_last_load more (drop i ps) ≡ behind_last_load more ps → left ≡ count_by is_loaded (drop i ps)
    → new ≡ made ++ (get_or ps i d ∷ added_behind more (get_or ps i d) left)
    → (new ++ behind_last_load more (drop (i + 1) ps) ≡ behind_last_load more ps) × (left_behind (get_or ps i d) left ≡ count_by is_loaded (drop (i + 1) ps))
behind-more more ps i d left made new within whole left_is new_is =
    let p : SegmentHeader = get_or ps i d in
    let step = behind_step more p (drop (i + 1) ps) left (left_is ∙ at_drop_more (count_by is_loaded) ps i d within) in (
      ap (λ l. l ++ behind_last_load more (drop (i + 1) ps)) new_is ∙ append_assoc made (p ∷ added_behind more p left) (behind_last_load more (drop (i + 1) ps))
          ∙ ap (λ l. made ++ l) (sym step.0) ∙ ap (λ l. made ++ l) (sym (at_drop_more (behind_last_load more) ps i d within)) ∙ whole,
      step.1,
    )

pub behind-nothing : (more : List SegmentHeader) → behind_last_load more [] ≡ []
unfolding behind_last_load
behind-nothing more = refl

-- a fault of a program header is one of all
pub stands_too_far : (r : Resized) (moved : List ℕ) (fits : Bool) (fault : LayoutFault) → IsMisfit fits fault → (fits ≡ false → IsPastField r moved) → StandsTooFar r moved fault
stands_too_far r moved fits faults.Overlap misfit past = misfit
stands_too_far r moved fits faults.NumberTooLarge misfit past = past misfit
stands_too_far r moved fits faults.Memory misfit past = tt
