-- In each plan of an edited image headers, tables and sections share no byte of the file; what isn't loaded and has bytes stands behind all segments.
use Rattle.std.proofs.Common.{◌≡◌, ◌≤◌, ◌<◌, ◌⊎◌, ℕ, ◌+◌, ◌*◌, true, false, eqb, List, ◌∷◌, ◌++◌, Bool, map, length, refl, sym, ap, ◌∙◌, subst, inl, inr, Option, Some, None, arith}
use Rattle.std.specs.Prelude.{◌&&◌, not, filter, is_some, if◌then◌else◌, IsTrue}
use Rattle.std.specs.List.{list_all, list_any, slice_get}
use Rattle.std.proofs.lemmas.Bool.{and_from, and_parts, cases_Bool, eqb-true, leb-true, not_from_false}
use Rattle.std.proofs.Math.Nat.{mul-le-mul_right}
use Rattle.elf_format.specs.declared.range.Range.{Range}
use Rattle.elf_format.specs.declared.records.SegmentHeader.{SegmentHeader}
use Rattle.elf_format.specs.File.{loads_of}
use Rattle.elf_format.specs.Image.{Image}
use Rattle.elf_format.specs.Places.{Place, file_range, occupies_file, occupies_memory}
use Rattle.elf_format.specs.Placement.{file_part, holds, is_stored, stored_ranges}
use Rattle.elf_format.specs.Ranges.{all_apart, apart, end_of, lies_in, range}
use Rattle.elf_format.specs.Records.{file_header_size, section_header_size, segment_header_size}
use Rattle.elf_image.specs.Edited.{IsEdited}
use Rattle.elf_layout_plan.specs.Added.{header_count, kept_end}
use Rattle.elf_layout_plan.specs.Blocks.{have_causes, stay_apart}
use Rattle.elf_layout_plan.specs.FilePlaced.{written_headers, written_table}
use Rattle.elf_image.specs.Kept.{kept_sections}
use Rattle.elf_layout_plan.specs.Memory.{Resized, SizedSection, blocks_with, sized_sections, table_load, table_size_with}
use Rattle.elf_layout_plan.specs.Plan.{IsPlan, Plan, plan_for, resized}
use Rattle.elf_layout_plan.specs.Rounds.{are_in_old_order, do_move, headers_needed, sections_at}
use Rattle.elf_layout_plan.specs.Standing.{UnloadedSlot, content_end, unloaded_slots, unloaded_start, next_table, place_in, places, sections_offset, segments_end, table_offset}
use Rattle.elf_layout_plan.specs.Written.{written_segments}
use Rattle.elf_layout_plan.proofs.ForCallers.ApartBlocks.{all_apart_pairs, pairs_all_apart}
use Rattle.elf_layout_plan.proofs.ForCallers.ApartFixed.{resized_sections}
use Rattle.elf_layout_plan.proofs.ForCallers.ApartLists.{Each, Pairs, Some_in, all-at, any-at, at-map, each-all, each-at, each-filter, each-from, each-map, each-more, each-unfilter, each-unmap, map-at, pairs-filter, pairs-from, pairs-less, pairs-map, pairs-more, pairs-unfilter, pairs-unmap}
use Rattle.elf_layout_plan.proofs.ForCallers.ApartSections.{sized-at, sized_of}
use Rattle.elf_layout_plan.proofs.ForCallers.PlacedCount.{length-written}
use Rattle.elf_layout_plan.proofs.ForCallers.PlacedFile.{are_held, headers_clear, stored_are_apart}
use Rattle.elf_layout_plan.proofs.ForCallers.PlacedLists.{Has, pairs-two, slice_get-at}
use Rattle.elf_layout_plan.proofs.ForCallers.UnloadedParts.{filled_unloaded}
use Rattle.elf_layout_plan.proofs.ForCallers.PlacedPlaces.{keeps_kind, same_file, same_memory}
use Rattle.elf_layout_plan.proofs.ForCallers.PlacedRanges.{lies_in-at}
use Rattle.elf_layout_plan.proofs.ForCallers.PlacedRead.{ReadsPlaced, reads_placed}
use Rattle.elf_layout_plan.proofs.ForCallers.PlacedSegments.{before_kept_end, end_before_sections, header_before_kept_end, kept_before_segments_end, load_before_segments_end, unloaded_before_end, segments_before_unloaded, slot_before_end}
use Rattle.elf_layout_plan.proofs.ForCallers.PlacedStays.{table_kept_in}
use Rattle.elf_write_spec.specs.Laws.{PlansAreApartInFile, section_table}
use Rattle.elf_write_spec.proofs.UnloadedFacts.{UnloadedAt, UnloadedBefore, unloaded_at, unloaded_behind, unloaded_pairs}
use Rattle.elf_format.proofs.ForCallers.{apart-before, apart-behind, apart-empty, apart-from_empty}

-- the section header table stands behind each loaded segment, and so does a section of the file that has bytes and isn't loaded
pub record StandsBehind (plan : Plan) : Type 0 where
  pub table : (i : ℕ) (p : SegmentHeader) → slice_get (loads_of plan.segments) i ≡ Some p → end_of (file_part p) ≤ plan.e_shoff
  pub sections : (i j : ℕ) (p : SegmentHeader) (s : Place) → slice_get (loads_of plan.segments) i ≡ Some p → slice_get plan.places j ≡ Some s
      → occupies_memory s ≡ false → IsTrue (occupies_file s) → eqb s.sh_size 0 ≡ false → end_of (file_part p) ≤ s.sh_offset

module _ (r : Resized) (moved : List ℕ) (looked : ℕ) (reads : ReadsPlaced r) (clear : stay_apart moved (blocks_with r looked) ≡ true)
    (enough : headers_needed r moved ≤ looked) (sized : sized_sections r ≡ map (sized_of r) (kept_sections r.image))
    (move : do_move r looked moved ≡ true) where
  -- ## Where the tables end

  table_size : ℕ
  table_size = length (written_segments r moved) * segment_header_size r.image.form

  table_by : (o : Option SegmentHeader) → table_load r ≡ o → table_offset r moved + table_size ≤ unloaded_start r moved
  unfolding unloaded_start table_size table_offset
  table_by None is =
      let unit : ℕ = segment_header_size r.image.form in
      let few : length (written_segments r moved) ≤ header_count r moved = length-written r moved in
      let small : length (written_segments r moved) * unit ≤ header_count r moved * unit = mul-le-mul_right unit few in
      subst (λ (o : Option SegmentHeader).
      table_offset r moved + length (written_segments r moved) * unit
      ≤ (if is_some o then segments_end r moved else table_offset r moved + header_count r moved * unit)) (sym is) (omega (arith, small))
  table_by (Some q) is =
      let unit : ℕ = segment_header_size r.image.form in
      let kept = table_kept_in r moved looked reads clear q is in
      let end : kept.load.p_offset + kept.load.p_filesz ≤ kept_end r moved = before_kept_end r moved reads kept.load kept.here in
      let few : length (written_segments r moved) ≤ length r.image.segments + looked = omega (arith, length-written r moved, enough) in
      let small : length (written_segments r moved) * unit ≤ table_size_with r looked = mul-le-mul_right unit few in
      let stays : table_offset r moved ≡ r.read.header.e_phoff =
      ap (λ (o : Option SegmentHeader). if is_some o then r.image.header.e_phoff else next_table r (segments_end r moved)) is ∙ reads.table_offset in
      omega (arith, kept.ends, end, small, stays, kept_before_segments_end r moved reads, segments_before_unloaded r moved reads)

  table_before_unloaded : table_offset r moved + table_size ≤ unloaded_start r moved
  table_before_unloaded = table_by (table_load r) refl

  -- ## Where each section ends

  -- a section of the file that has bytes and isn't loaded stands behind the segments
  behind_of : (s : SizedSection) → Has s (sized_sections r) → occupies_file (place_in r moved s) ≡ true
      → occupies_memory (place_in r moved s) ≡ false → eqb (place_in r moved s).sh_size 0 ≡ false → UnloadedAt r moved s
  behind_of s here there bare some = unloaded_at r moved looked sized move s here
      (filled_unloaded s (sym (same_file r moved s here) ∙ there) (sym (same_memory r moved s here) ∙ bare)
      (ap (λ (n : ℕ). eqb n 0) (sym (keeps_kind r moved s here).size) ∙ some))

  -- one with bytes in the file is empty, or stored in a segment, or it stands behind them
  kind_of : (s : SizedSection) → Has s (sized_sections r) → occupies_file (place_in r moved s) ≡ true
      → ((place_in r moved s).sh_size ≡ 0) ⊎ ((is_stored (place_in r moved s) ≡ true) ⊎ UnloadedAt r moved s)
  kind_of s here there =
      let x : Place = place_in r moved s in
      elim (cases_Bool (eqb x.sh_size 0)) [
        | inl none ↦ inl (eqb-true x.sh_size 0 none)
        | inr some ↦ elim (cases_Bool (occupies_memory x)) [
          | inl takes ↦ inr (inl (and_from (occupies_memory x && occupies_file x) (not (eqb x.sh_size 0))
              (and_from (occupies_memory x) (occupies_file x) takes there) (not_from_false (eqb x.sh_size 0) some)))
          | inr bare ↦ inr (inr (behind_of s here there bare some))
        ]
      ]

  -- a fact of the place of each section
  places_each : (Q : Place → Type 0) → ((i : ℕ) (s : SizedSection) → slice_get (sized_sections r) i ≡ Some s → Q (place_in r moved s))
      → Each Q (places r moved)
  unfolding places
  places_each Q each = each-from Q (map (place_in r moved) (sized_sections r)) (λ i x at.
      let (s, at_s, same) = map-at (place_in r moved) (sized_sections r) i x at in subst Q same (each i s at_s))

  -- a stored section ends where the segments do, or before
  stored_ends : Each (λ x. is_stored x ≡ true → x.sh_offset + x.sh_size ≤ segments_end r moved) (places r moved)
  stored_ends =
      let test : Place → Bool = λ x. list_any (λ p. holds p x) (loads_of (written_segments r moved)) && not (eqb x.sh_offset 0) in
      let held = each-unfilter (λ x. test x ≡ true) is_stored (places r moved)
      (all-at test (filter is_stored (places r moved)) (are_held r moved looked reads clear enough)) in
      each-more (λ x. is_stored x ≡ true → test x ≡ true) (λ x. is_stored x ≡ true → x.sh_offset + x.sh_size ≤ segments_end r moved)
      (λ x h stored.
      let some = any-at (λ p. holds p x) (loads_of (written_segments r moved))
      (and_parts (list_any (λ p. holds p x) (loads_of (written_segments r moved))) (not (eqb x.sh_offset 0)) (h stored)).0 in
      ends_by x some) (places r moved) held
    where
      ends_by : (x : Place) → Some_in (λ p. holds p x ≡ true) (loads_of (written_segments r moved)) → x.sh_offset + x.sh_size ≤ segments_end r moved
      ends_by x (k, p, at, holds_it) =
          let lies = lies_in-at (file_range x) (file_part p)
          (and_parts (lies_in (file_range x) (file_part p)) (eqb (x.sh_addr + p.p_offset) (p.p_vaddr + x.sh_offset)) holds_it).0 in
          let end : end_of (file_part p) ≤ segments_end r moved =
          load_before_segments_end r moved reads p (slice_get-at (loads_of (written_segments r moved)) k p at) in
          omega (arith, lies.1, end)

  stored_end : (i : ℕ) (s : SizedSection) → slice_get (sized_sections r) i ≡ Some s → is_stored (place_in r moved s) ≡ true
      → (place_in r moved s).sh_offset + (place_in r moved s).sh_size ≤ segments_end r moved
  unfolding places
  stored_end i s at stored = each-at (λ x. is_stored x ≡ true → x.sh_offset + x.sh_size ≤ segments_end r moved)
      (map (place_in r moved) (sized_sections r)) stored_ends i (place_in r moved s) (at-map (place_in r moved) (sized_sections r) i s at) stored

  unloaded_begins : (s : SizedSection) (on : UnloadedAt r moved s) → unloaded_start r moved ≤ (place_in r moved s).sh_offset
  unloaded_begins s on = omega (arith, unloaded_behind r moved on.slot on.here, on.offset)

  unloaded_ends : (s : SizedSection) (on : UnloadedAt r moved s) → (place_in r moved s).sh_offset + (place_in r moved s).sh_size ≤ content_end r moved
  unloaded_ends s on = omega (arith, slot_before_end r moved reads on.slot on.here, on.offset, on.size)

  -- ## What is apart from all sections

  -- a header
  ahead : (h : Range) → list_all (λ x. apart h x) (stored_ranges (places r moved)) ≡ true → end_of h ≤ unloaded_start r moved
      → Each (λ x. occupies_file x ≡ true → apart h (file_range x) ≡ true) (places r moved)
  unfolding places
  ahead h stored end =
      let clear_of = each-unfilter (λ x. apart h (file_range x) ≡ true) is_stored (places r moved)
      (each-unmap (λ y. apart h y ≡ true) file_range (filter is_stored (places r moved))
      (all-at (λ x. apart h x) (stored_ranges (places r moved)) stored)) in
      places_each (λ x. occupies_file x ≡ true → apart h (file_range x) ≡ true) (λ i s at there.
      elim (kind_of s (slice_get-at (sized_sections r) i s at) there) [
        | inl none ↦ apart-from_empty h (file_range (place_in r moved s)) none
        | inr (inl is) ↦ each-at (λ x. is_stored x ≡ true → apart h (file_range x) ≡ true) (places r moved) clear_of i (place_in r moved s)
            (at-map (place_in r moved) (sized_sections r) i s at) is
        | inr (inr on) ↦ apart-before h (file_range (place_in r moved s)) (omega (arith, end, unloaded_begins s on))
      ])

  -- the section header table
  behind_all : (size : ℕ) → Each (λ x. occupies_file x ≡ true → apart (range (sections_offset r moved) size) (file_range x) ≡ true) (places r moved)
  behind_all size =
      let h : Range = range (sections_offset r moved) size in
      let last : content_end r moved ≤ sections_offset r moved = end_before_sections r moved reads in
      places_each (λ x. occupies_file x ≡ true → apart h (file_range x) ≡ true) (λ i s at there.
      elim (kind_of s (slice_get-at (sized_sections r) i s at) there) [
        | inl none ↦ apart-from_empty h (file_range (place_in r moved s)) none
        | inr (inl is) ↦ apart-behind h (file_range (place_in r moved s))
            (omega (arith, last, stored_end i s at is, segments_before_unloaded r moved reads, unloaded_before_end r moved reads))
        | inr (inr on) ↦ apart-behind h (file_range (place_in r moved s)) (omega (arith, last, unloaded_ends s on))
      ])

  -- ## Two sections

  abbrev ApartWhereStored : Place → Place → Type 0
  ApartWhereStored x y = is_stored x ≡ true → is_stored y ≡ true → apart (file_range x) (file_range y) ≡ true

  stored_pairs : Pairs ApartWhereStored (places r moved)
  stored_pairs = pairs-unfilter (λ x y. apart (file_range x) (file_range y) ≡ true) is_stored (places r moved)
      (pairs-unmap (λ a b. apart a b ≡ true) file_range (filter is_stored (places r moved))
      (all_apart_pairs (stored_ranges (places r moved)) (stored_are_apart r moved looked reads clear enough)))

  two_unloaded : (i j : ℕ) (s t : SizedSection) → i < j → slice_get (sized_sections r) i ≡ Some s → slice_get (sized_sections r) j ≡ Some t
      → UnloadedAt r moved s → UnloadedAt r moved t → apart (file_range (place_in r moved s)) (file_range (place_in r moved t)) ≡ true
  two_unloaded i j s t less at_s at_t a b =
      elim (pairs-two UnloadedBefore (unloaded_slots r moved) (unloaded_pairs r moved) a.slot b.slot a.here b.here) [
        | inl same ↦
            let first : s.kept.position ≡ i = (sized-at r sized i s at_s).0 in
            let second : t.kept.position ≡ j = (sized-at r sized j t at_t).0 in
            absurd (omega (arith, less, first, second, a.position, b.position, ap (λ (x : UnloadedSlot). x.position) same))
        | inr (inl h) ↦ apart-before (file_range (place_in r moved s)) (file_range (place_in r moved t))
            (omega (arith, h, a.offset, a.size, b.offset))
        | inr (inr h) ↦ apart-behind (file_range (place_in r moved s)) (file_range (place_in r moved t))
            (omega (arith, h, a.offset, b.size, b.offset))
      ]

  two_apart : (i j : ℕ) (s t : SizedSection) → i < j → slice_get (sized_sections r) i ≡ Some s → slice_get (sized_sections r) j ≡ Some t
      → occupies_file (place_in r moved s) ≡ true → occupies_file (place_in r moved t) ≡ true
      → apart (file_range (place_in r moved s)) (file_range (place_in r moved t)) ≡ true
  unfolding places
  two_apart i j s t less at_s at_t s_there t_there =
      let x : Place = place_in r moved s in
      let y : Place = place_in r moved t in
      elim (kind_of s (slice_get-at (sized_sections r) i s at_s) s_there) [
        | inl none ↦ apart-empty (file_range x) (file_range y) none
        | inr (inl a) ↦ elim (kind_of t (slice_get-at (sized_sections r) j t at_t) t_there) [
          | inl none ↦ apart-from_empty (file_range x) (file_range y) none
          | inr (inl b) ↦ pairs-less ApartWhereStored (places r moved) stored_pairs i j x y less
              (at-map (place_in r moved) (sized_sections r) i s at_s) (at-map (place_in r moved) (sized_sections r) j t at_t) a b
          | inr (inr b) ↦ apart-before (file_range x) (file_range y)
              (omega (arith, stored_end i s at_s a, segments_before_unloaded r moved reads, unloaded_begins t b))
        ]
        | inr (inr a) ↦ elim (kind_of t (slice_get-at (sized_sections r) j t at_t) t_there) [
          | inl none ↦ apart-from_empty (file_range x) (file_range y) none
          | inr (inl b) ↦ apart-behind (file_range x) (file_range y)
              (omega (arith, stored_end j t at_t b, segments_before_unloaded r moved reads, unloaded_begins s a))
          | inr (inr b) ↦ two_unloaded i j s t less at_s at_t a b
        ]
      ]

  abbrev ApartWhereThere : Place → Place → Type 0
  ApartWhereThere x y = occupies_file x ≡ true → occupies_file y ≡ true → apart (file_range x) (file_range y) ≡ true

  there_pairs : Pairs ApartWhereThere (places r moved)
  unfolding places
  there_pairs = pairs-map ApartWhereThere (place_in r moved) (sized_sections r)
      (pairs-from (λ s t. ApartWhereThere (place_in r moved s) (place_in r moved t)) (sized_sections r)
      (λ i j s t less at_s at_t s_there t_there. two_apart i j s t less at_s at_t s_there t_there))

  -- ## The plan

  abbrev start : Range
  start = range 0 (file_header_size r.image.form)

  abbrev table : Range
  table = range (table_offset r moved) (length (written_segments r moved) * segment_header_size r.image.form)

  -- stored sections are apart from file header and program header table
  stored_ahead : (list_all (λ x. apart start x) (stored_ranges (places r moved)) ≡ true)
      × (list_all (λ x. apart table x) (stored_ranges (places r moved)) ≡ true)
  stored_ahead =
      let both = and_parts (list_all (λ x. apart start x) (stored_ranges (places r moved)))
      (list_all (λ x. apart table x) (stored_ranges (places r moved)) && true) (headers_clear r moved looked reads clear enough) in
      (both.0, (and_parts (list_all (λ x. apart table x) (stored_ranges (places r moved))) true both.1).0)

  start_end : end_of start ≤ unloaded_start r moved
  start_end = omega (
    arith,
    header_before_kept_end r moved reads,
    kept_before_segments_end r moved reads,
    segments_before_unloaded r moved reads,
  )

  table_end : end_of table ≤ unloaded_start r moved
  unfolding table_size
  table_end = table_before_unloaded

  start_ahead : Each (λ x. occupies_file x ≡ true → apart start (file_range x) ≡ true) (places r moved)
  start_ahead = ahead start stored_ahead.0 start_end

  table_ahead : Each (λ x. occupies_file x ≡ true → apart table (file_range x) ≡ true) (places r moved)
  table_ahead = ahead table stored_ahead.1 table_end

  -- what holds of each section with bytes in the file holds of the ranges of such sections
  ranges_each : (Q : Range → Type 0) → Each (λ x. occupies_file x ≡ true → Q (file_range x)) (places r moved)
      → Each Q (map file_range (filter occupies_file (places r moved)))
  ranges_each Q each = each-map Q file_range (filter occupies_file (places r moved))
      (each-more (λ x. (occupies_file x ≡ true) × (occupies_file x ≡ true → Q (file_range x))) (λ x. Q (file_range x)) (λ x h. h.1 h.0)
      (filter occupies_file (places r moved))
      (each-filter (λ x. occupies_file x ≡ true → Q (file_range x)) occupies_file (places r moved) each))

  section_ranges : List Range
  section_ranges = map file_range (filter occupies_file (places r moved))

  sections_apart : Pairs (λ a b. apart a b ≡ true) section_ranges
  unfolding section_ranges
  sections_apart =
      let there : List Place = filter occupies_file (places r moved) in
      let each = each-more (λ x. (occupies_file x ≡ true) × Unit {0}) (λ x. occupies_file x ≡ true) (λ x h. h.0) there
      (each-filter (λ x. Unit {0}) occupies_file (places r moved) (each-all (λ x. Unit {0}) (λ x. tt) (places r moved))) in
      pairs-map (λ a b. apart a b ≡ true) file_range there
      (pairs-more ApartWhereThere (λ x. occupies_file x ≡ true) (λ x y. apart (file_range x) (file_range y) ≡ true)
      (λ x y x_there y_there h. h x_there y_there) there each (pairs-filter ApartWhereThere occupies_file (places r moved) there_pairs))

  all_are_apart : (rounds : ℕ) → apart start table ≡ true
      → all_apart (written_headers r (plan_for r rounds looked moved) ++ section_table r (plan_for r rounds looked moved)
      ++ map file_range (filter occupies_file (plan_for r rounds looked moved).places)) ≡ true
  unfolding plan_for section_ranges
  all_are_apart rounds headers =
      let size : ℕ = length (places r moved) * section_header_size r.image.form in
      let last : Range = range (sections_offset r moved) size in
      let behind : content_end r moved ≤ sections_offset r moved = end_before_sections r moved reads in
      pairs_all_apart (start ∷ table ∷ last ∷ section_ranges) (
        (
          headers,
          (
            apart-before start last (omega (arith, start_end, behind, unloaded_before_end r moved reads)),
            ranges_each (λ y. apart start y ≡ true) start_ahead,
          ),
        ),
        (
          (
            apart-before table last (omega (arith, table_end, behind, unloaded_before_end r moved reads)),
            ranges_each (λ y. apart table y ≡ true) table_ahead,
          ),
          (ranges_each (λ y. apart last y ≡ true) (behind_all size), sections_apart),
        ),
      )

  -- ## Behind the segments

  abbrev IsBehindIfFilled : Place → Type 0
  IsBehindIfFilled x = occupies_memory x ≡ false → occupies_file x ≡ true → eqb x.sh_size 0 ≡ false → segments_end r moved ≤ x.sh_offset

  unloaded_behind_loads : Each IsBehindIfFilled (places r moved)
  unloaded_behind_loads = places_each IsBehindIfFilled (λ i s at bare there some.
      omega (arith, segments_before_unloaded r moved reads, unloaded_begins s (behind_of s (slice_get-at (sized_sections r) i s at) there bare some)))

  load_end : (i : ℕ) (p : SegmentHeader) → slice_get (loads_of (written_segments r moved)) i ≡ Some p → end_of (file_part p) ≤ segments_end r moved
  load_end i p at = load_before_segments_end r moved reads p (slice_get-at (loads_of (written_segments r moved)) i p at)

  all_stands_behind : (rounds : ℕ) → StandsBehind (plan_for r rounds looked moved)
  unfolding plan_for
  all_stands_behind rounds = record {
    table = λ i p at.
        omega (arith, load_end i p at, segments_before_unloaded r moved reads, unloaded_before_end r moved reads, end_before_sections r moved reads);
    sections = λ i j p x at at_x bare there some.
        let begins : segments_end r moved ≤ x.sh_offset =
        each-at IsBehindIfFilled (places r moved) unloaded_behind_loads j x at_x bare there some in
        omega (arith, load_end i p at, begins);
  }

-- what stays is apart
stays_apart : (r : Resized) (looked : ℕ) (moved : List ℕ) → do_move r looked moved ≡ true → stay_apart moved (blocks_with r looked) ≡ true
stays_apart r looked moved h =
    (and_parts (have_causes (blocks_with r looked) moved) (stay_apart moved (blocks_with r looked))
    (and_parts (have_causes (blocks_with r looked) moved && stay_apart moved (blocks_with r looked))
    (are_in_old_order (sections_at r moved)) h).0).1

pub stands_behind : (image : Image) (plan : Plan) → IsEdited image → IsPlan (resized image) plan → StandsBehind plan
stands_behind image plan edited planned =
    let r : Resized = resized image in
    let enough : headers_needed r planned.moved ≤ plan.looked = leb-true (headers_needed r planned.moved) plan.looked planned.ended.enough in
    subst StandsBehind (sym planned.follows) (all_stands_behind r planned.moved plan.looked (reads_placed image edited)
    (stays_apart r plan.looked planned.moved planned.ended.move) enough (resized_sections image) planned.ended.move plan.rounds)

-- the ranges of a plan
abbrev ranges_of : Image → Plan → List Range
ranges_of image plan = written_headers (resized image) plan ++ section_table (resized image) plan
    ++ map file_range (filter occupies_file plan.places)

pub plans_are_apart_in_file : PlansAreApartInFile
unfolding plan_for
plans_are_apart_in_file image plan edited planned headers =
    let r : Resized = resized image in
    let enough : headers_needed r planned.moved ≤ plan.looked = leb-true (headers_needed r planned.moved) plan.looked planned.ended.enough in
    let now : apart (range 0 (file_header_size image.form)) (written_table r (plan_for r plan.rounds plan.looked planned.moved)) ≡ true =
    subst (λ (l : Plan). apart (range 0 (file_header_size image.form)) (written_table r l) ≡ true) planned.follows headers in
    subst (λ (l : Plan). all_apart (ranges_of image l) ≡ true) (sym planned.follows)
    (all_are_apart r planned.moved plan.looked (reads_placed image edited)
    (stays_apart r plan.looked planned.moved planned.ended.move) enough (resized_sections image) planned.ended.move plan.rounds now)
