-- A plan is placed in the file as the rules of placement ask.
use Rattle.std.proofs.Common.{◌≡◌, ◌≤◌, ◌<◌, ◌⊎◌, ℕ, ◌+◌, ◌*◌, true, eqb, List, [], ◌∷◌, map, length, refl, sym, ap, ◌∙◌, subst, inl, inr, Option, Some, None, arith}
use Rattle.std.specs.Prelude.{◌&&◌, not, ◌==◌, filter, is_some, if◌then◌else◌}
use Rattle.std.specs.List.{list_all, list_any}
use Rattle.std.proofs.lemmas.Bool.{and_from, and_parts, cases_Bool, eq-eqb, eqb-true, le-leb, ne_eqb, not_from_false, or_left, or_right}
use Rattle.std.proofs.Math.Nat.{mul-le-mul_right}
use Rattle.elf_format.specs.declared.constants.TheConstants.{PT_PHDR}
use Rattle.elf_format.specs.declared.range.Range.{Range}
use Rattle.elf_format.specs.declared.records.SegmentHeader.{SegmentHeader}
use Rattle.elf_format.specs.File.{is_loaded, loads_of}
use Rattle.elf_format.specs.Placement.{ends_by, file_part, header_table_loaded, holds, is_stored, ranges_in_file, sections_held, sections_loaded, something_loaded, stored_apart, stored_clear_of, stored_ranges}
use Rattle.elf_format.specs.Places.{Place, file_range, occupies_file, occupies_memory}
use Rattle.elf_format.specs.Ranges.{all_apart, apart, end_of, lies_in, range}
use Rattle.elf_format.specs.Records.{file_header_size, segment_header_size}
use Rattle.elf_layout_plan.specs.Added.{AddedLoad, Slot, added_loads, kept_end}
use Rattle.elf_layout_plan.specs.Blocks.{stay_apart}
use Rattle.elf_tables.specs.Kept.{place_at_read}
use Rattle.elf_layout_plan.specs.Memory.{Resized, SizedSection, blocks_with, sized_sections, table_load, table_size_with}
use Rattle.elf_layout_plan.specs.Rounds.{headers_needed}
use Rattle.elf_layout_plan.specs.Standing.{content_end, next_table, place_in, places, sections_offset, segments_end, table_offset}
use Rattle.elf_layout_plan.specs.Written.{written_segments}
use Rattle.elf_layout_plan.proofs.PlacedLists.{Has, MadeOf, Pairs, all-from, any-at, any-from, filter-at, filter-from, map-at, pairs-filter, pairs-map, pairs-two, pairs-weaker}
use Rattle.elf_layout_plan.proofs.PlacedRanges.{Apart, all_apart-from, apart-before, apart-behind, apart-within, lies_in-from}
use Rattle.elf_layout_plan.proofs.PlacedRead.{ReadsPlaced, header_filled}
use Rattle.elf_layout_plan.proofs.PlacedSections.{IsBefore, is_kept, ordered}
use Rattle.elf_layout_plan.proofs.PlacedAdded.{EndsBefore, IsSlotOf, StandsBefore, added_apart, is_added}
use Rattle.elf_layout_plan.proofs.PlacedWritten.{type_was}
use Rattle.elf_layout_plan.proofs.PlacedCount.{length-written}
use Rattle.elf_layout_plan.proofs.PlacedSegments.{added_before_segments_end, added_written, before_kept_end, end_before_sections, header_before_kept_end, kept_before_segments_end, load_before_segments_end, load_written, segments_before_end, slot_before_end, table_behind}
use Rattle.elf_layout_plan.proofs.PlacedStays.{behind_header, kept_in, stay_apart_in_file, table_apart, table_kept_in}
use Rattle.elf_layout_plan.proofs.UnloadedParts.{not_unloaded_loaded}
use Rattle.elf_layout_plan.proofs.PlacedPlaces.{StandsAdded, StandsStored, keeps_kind, same_file, same_memory, standing, stands, stays_empty, stored_stands}

-- a segment that has a place's bytes, at its distance
holds_from : (p : SegmentHeader) (x : Place) → p.p_offset ≤ x.sh_offset → x.sh_offset + x.sh_size ≤ p.p_offset + p.p_filesz
    → x.sh_addr + p.p_offset ≡ p.p_vaddr + x.sh_offset
    → holds p x ≡ true
holds_from p x begins ends distance =
    and_from (lies_in (file_range x) (file_part p)) (eqb (x.sh_addr + p.p_offset) (p.p_vaddr + x.sh_offset))
    (lies_in-from (file_range x) (file_part p) begins ends) (eq-eqb (x.sh_addr + p.p_offset) (p.p_vaddr + x.sh_offset) distance)

module _ (r : Resized) (moved : List ℕ) (looked : ℕ) (reads : ReadsPlaced r) (clear : stay_apart moved (blocks_with r looked) ≡ true)
    (enough : headers_needed r moved ≤ looked) where
  place_from : (x : Place) → Has x (places r moved) → MadeOf (place_in r moved) (sized_sections r) x
  unfolding places
  place_from x h = map-at (place_in r moved) (sized_sections r) x h

  -- where some section takes memory, some segment is loaded
  loaded_there : (s : SizedSection) → Has s (sized_sections r) → occupies_memory (place_in r moved s) ≡ true
      → list_any is_loaded r.image.segments ≡ true
  loaded_there s here takes = reads.something s.kept (is_kept r s here) (sym (same_memory r moved s here) ∙ takes)

  -- ## In the file

  -- a section in an added segment
  slot_is : (s : SizedSection) (added : StandsAdded r moved s) → IsSlotOf added.is_moved.load added.slot
  slot_is s added = (is_added r moved added.is_moved.load added.is_moved.here).slots added.slot added.is_moved.among

  offset_added : (s : SizedSection) (added : StandsAdded r moved s) → (place_in r moved s).sh_offset ≡ added.slot.offset
  offset_added s added = ap (λ (x : Place). x.sh_offset) added.place

  size_added : (s : SizedSection) (added : StandsAdded r moved s) → (place_in r moved s).sh_size ≡ added.slot.size
  size_added s added = ap (λ (x : Place). x.sh_size) added.place ∙ sym added.is_moved.size

  offset_stored : (s : SizedSection) (on : StandsStored r moved s) → (place_in r moved s).sh_offset ≡ s.kept.section.sh_offset
  offset_stored s on = ap (λ (x : Place). x.sh_offset) on.place

  size_stored : (s : SizedSection) (on : StandsStored r moved s) → (place_in r moved s).sh_size ≡ s.size
  size_stored s on = ap (λ (x : Place). x.sh_size) on.place

  added_ends : (s : SizedSection) → StandsAdded r moved s → (place_in r moved s).sh_offset + (place_in r moved s).sh_size ≤ segments_end r moved
  added_ends s added =
      let is = slot_is s added in
      let end : added.is_moved.load.header.p_offset + added.is_moved.load.header.p_filesz ≤ segments_end r moved =
      added_before_segments_end r moved reads added.is_moved.load added.is_moved.here in
      omega (arith, is.ends, end, offset_added s added, size_added s added)

  stored_ends_kept : (s : SizedSection) → StandsStored r moved s → (place_in r moved s).sh_offset + (place_in r moved s).sh_size ≤ kept_end r moved
  stored_ends_kept s on =
      let is = kept_in r moved looked reads clear s on.is in
      let end : is.load.p_offset + is.load.p_filesz ≤ kept_end r moved = before_kept_end r moved reads is.load is.here in
      omega (arith, is.ends, end, offset_stored s on, size_stored s on)

  place_ends : (s : SizedSection) → Has s (sized_sections r) → occupies_file (place_in r moved s) ≡ true
      → (place_in r moved s).sh_offset + (place_in r moved s).sh_size ≤ content_end r moved
  place_ends s here stored = elim (stands r moved s here) [
    | inl added ↦ omega (arith, added_ends s added, segments_before_end r moved reads)
    | inr (inl unloaded) ↦
        let offset : (place_in r moved s).sh_offset ≡ unloaded.slot.offset = ap (λ (x : Place). x.sh_offset) unloaded.place in
        let size : (place_in r moved s).sh_size ≡ s.size = ap (λ (x : Place). x.sh_size) unloaded.place in
        omega (arith, slot_before_end r moved reads unloaded.slot unloaded.here, offset, size, unloaded.size)
    | inr (inr on) ↦
        let was : occupies_file (place_at_read s.kept.section) ≡ true = sym (same_file r moved s here) ∙ stored in
        elim (cases_Bool (s.size == 0)) [
          | inl empty ↦ omega (arith, stays_empty r moved s on was empty, (keeps_kind r moved s here).size, eqb-true s.size 0 empty)
          | inr some ↦
              let is = standing r moved s here on (not_unloaded_loaded s on.not_unloaded was some) was some in
              omega (arith, stored_ends_kept s is, kept_before_segments_end r moved reads, segments_before_end r moved reads)
        ]
  ]

  -- everything lies in the file
  pub all_in_file : (size : ℕ) → sections_offset r moved ≤ size → ranges_in_file size (written_segments r moved) (places r moved) ≡ true
  all_in_file size more =
      let end : content_end r moved ≤ sections_offset r moved = end_before_sections r moved reads in
      and_from (list_all (λ s. ends_by size (file_range s)) (filter occupies_file (places r moved)))
      (list_all (λ p. ends_by size (file_part p)) (loads_of (written_segments r moved)))
      (all-from (λ s. ends_by size (file_range s)) (filter occupies_file (places r moved)) (λ x here.
      let back = filter-at occupies_file (places r moved) x here in
      let from = place_from x back.0 in
      let stored : occupies_file (place_in r moved from.source) ≡ true = ap occupies_file from.made ∙ back.1 in
      le-leb (x.sh_offset + x.sh_size) size
      (subst (λ (y : Place). y.sh_offset + y.sh_size ≤ size) from.made (omega (arith, place_ends from.source from.here stored, end, more)))))
      (all-from (λ p. ends_by size (file_part p)) (loads_of (written_segments r moved)) (λ p here.
      le-leb (end_of (file_part p)) size (omega (
        arith,
        load_before_segments_end r moved reads p here,
        segments_before_end r moved reads,
        end,
        more,
      ))))

  -- ## Stored sections

  -- a stored section lies in a loaded segment that is written
  record IsHeldNow (x : Place) : Type 0 where
    load : SegmentHeader
    here : Has load (loads_of (written_segments r moved))
    begins : load.p_offset ≤ x.sh_offset
    ends : x.sh_offset + x.sh_size ≤ load.p_offset + load.p_filesz
    distance : x.sh_addr + load.p_offset ≡ load.p_vaddr + x.sh_offset
    behind : file_header_size r.image.form ≤ x.sh_offset

  held_added : (s : SizedSection) → list_any is_loaded r.image.segments ≡ true → StandsAdded r moved s → IsHeldNow (place_in r moved s)
  held_added s any added =
      let is = slot_is s added in
      let load : AddedLoad = added.is_moved.load in
      let address : (place_in r moved s).sh_addr ≡ added.slot.address = ap (λ (x : Place). x.sh_addr) added.place in
      let low : kept_end r moved ≤ load.header.p_offset = (is_added r moved load added.is_moved.here).in_file in
      record {
        load = load.header;
        here = added_written r moved reads any load added.is_moved.here;
        begins = omega (arith, is.begins, offset_added s added);
        ends = omega (arith, is.ends, offset_added s added, size_added s added);
        distance = omega (arith, is.distance, address, offset_added s added);
        behind = omega (arith, low, header_before_kept_end r moved reads, is.begins, offset_added s added);
      }

  held_stored : (s : SizedSection) → list_any is_loaded r.image.segments ≡ true → StandsStored r moved s → IsHeldNow (place_in r moved s)
  held_stored s any on =
      let is = kept_in r moved looked reads clear s on.is in
      let address : (place_in r moved s).sh_addr ≡ s.kept.section.sh_addr = ap (λ (x : Place). x.sh_addr) on.place in
      record {
        load = is.load;
        here = load_written r moved reads any is.load is.here;
        begins = omega (arith, is.begins, offset_stored s on);
        ends = omega (arith, is.ends, offset_stored s on, size_stored s on);
        distance = omega (arith, is.distance, address, offset_stored s on);
        behind = omega (arith, behind_header r moved looked reads clear s on.is, offset_stored s on);
      }

  stored_takes : (x : Place) → is_stored x ≡ true → occupies_memory x ≡ true
  stored_takes x h = (and_parts (occupies_memory x) (occupies_file x)
      (and_parts (occupies_memory x && occupies_file x) (not (eqb x.sh_size 0)) h).0).0

  held_now : (s : SizedSection) → Has s (sized_sections r) → is_stored (place_in r moved s) ≡ true → IsHeldNow (place_in r moved s)
  held_now s here stored =
      let any = loaded_there s here (stored_takes (place_in r moved s) stored) in
      elim (stored_stands r moved s here stored) [ inl added ↦ held_added s any added | inr on ↦ held_stored s any on ]

  held_at : (x : Place) → IsHeldNow x → (list_any (λ p. holds p x) (loads_of (written_segments r moved)) && not (eqb x.sh_offset 0)) ≡ true
  held_at x h =
      let filled : 0 < file_header_size r.image.form = header_filled r.image.form in
      and_from (list_any (λ p. holds p x) (loads_of (written_segments r moved))) (not (eqb x.sh_offset 0))
      (any-from (λ p. holds p x) (loads_of (written_segments r moved)) h.load h.here (holds_from h.load x h.begins h.ends h.distance))
      (not_from_false (eqb x.sh_offset 0) (ne_eqb x.sh_offset 0 (λ e. omega (arith, e, filled, h.behind))))

  pub are_held : sections_held (written_segments r moved) (places r moved) ≡ true
  are_held = all-from (λ s. list_any (λ p. holds p s) (loads_of (written_segments r moved)) && not (eqb s.sh_offset 0))
      (filter is_stored (places r moved)) (λ x here.
      let back = filter-at is_stored (places r moved) x here in
      let from = place_from x back.0 in
      let stored : is_stored (place_in r moved from.source) ≡ true = ap is_stored from.made ∙ back.1 in
      subst (λ (y : Place). (list_any (λ p. holds p y) (loads_of (written_segments r moved)) && not (eqb y.sh_offset 0)) ≡ true) from.made
      (held_at (place_in r moved from.source) (held_now from.source from.here stored)))

  -- where a section takes memory, a segment is loaded
  pub is_something : something_loaded (written_segments r moved) (places r moved) ≡ true
  is_something = elim (cases_Bool (list_any occupies_memory (places r moved))) [
    | inr none ↦ or_left (not (list_any occupies_memory (places r moved))) (list_any is_loaded (written_segments r moved))
        (not_from_false (list_any occupies_memory (places r moved)) none)
    | inl some ↦
        let found = any-at occupies_memory (places r moved) some in
        let from = place_from found.element found.here in
        let any = loaded_there from.source from.here (ap occupies_memory from.made ∙ found.passes) in
        let load = any-at is_loaded r.image.segments any in
        let now = filter-at is_loaded (written_segments r moved) load.element
        (load_written r moved reads any load.element (filter-from is_loaded r.image.segments load.element load.here load.passes)) in
        or_right (not (list_any occupies_memory (places r moved))) (list_any is_loaded (written_segments r moved))
        (any-from is_loaded (written_segments r moved) load.element now.0 now.1)
  ]

  -- ## Stored sections are apart

  two_added : (s t : SizedSection) → IsBefore s t → StandsAdded r moved s → StandsAdded r moved t
      → Apart (file_range (place_in r moved s)) (file_range (place_in r moved t))
  two_added s t less a b =
      let a_is = slot_is s a in
      let b_is = slot_is t b in
      let a_load : AddedLoad = a.is_moved.load in
      let b_load : AddedLoad = b.is_moved.load in
      elim (pairs-two StandsBefore (added_loads r moved) (added_apart r moved) a_load b_load a.is_moved.here b.is_moved.here) [
        | inr (inl first) ↦
            let gap : a_load.header.p_offset + a_load.header.p_filesz ≤ b_load.header.p_offset = first.in_file in
            apart-before (file_range (place_in r moved s)) (file_range (place_in r moved t))
            (omega (arith, gap, a_is.ends, b_is.begins, offset_added s a, size_added s a, offset_added t b))
        | inr (inr last) ↦
            let gap : b_load.header.p_offset + b_load.header.p_filesz ≤ a_load.header.p_offset = last.in_file in
            apart-behind (file_range (place_in r moved s)) (file_range (place_in r moved t))
            (omega (arith, gap, b_is.ends, a_is.begins, offset_added s a, size_added t b, offset_added t b))
        | inl same ↦
            elim (pairs-two EndsBefore a_load.slots (is_added r moved a_load a.is_moved.here).slots_apart a.slot b.slot a.is_moved.among
            (subst (λ (l : AddedLoad). Has b.slot l.slots) (sym same) b.is_moved.among)) [
              | inl one ↦ absurd (omega (arith, less, a.is_moved.position, b.is_moved.position, ap (λ (x : Slot). x.position) one))
              | inr (inl first) ↦
                  apart-before (file_range (place_in r moved s)) (file_range (place_in r moved t))
                  (omega (arith, first, offset_added s a, size_added s a, offset_added t b))
              | inr (inr last) ↦
                  apart-behind (file_range (place_in r moved s)) (file_range (place_in r moved t))
                  (omega (arith, last, offset_added s a, size_added t b, offset_added t b))
            ]
      ]

  stored_before_added : (s t : SizedSection) → StandsStored r moved s → StandsAdded r moved t
      → (place_in r moved s).sh_offset + (place_in r moved s).sh_size ≤ (place_in r moved t).sh_offset
  stored_before_added s t on added =
      let load : AddedLoad = added.is_moved.load in
      let low : kept_end r moved ≤ load.header.p_offset = (is_added r moved load added.is_moved.here).in_file in
      omega (arith, stored_ends_kept s on, low, (slot_is t added).begins, offset_added t added)

  two_stored : (s t : SizedSection) → IsBefore s t → StandsStored r moved s → StandsStored r moved t
      → Apart (file_range (place_in r moved s)) (file_range (place_in r moved t))
  two_stored s t less a b = elim (stay_apart_in_file r moved looked reads clear s t a.is b.is) [
    | inl same ↦ absurd (omega (arith, less, ap (λ (x : SizedSection). x.kept.position) same))
    | inr h ↦
        apart-within (file_range (place_in r moved s)) (file_range (place_in r moved t)) (range s.kept.section.sh_offset s.size)
        (range t.kept.section.sh_offset t.size) h
        (omega (arith, offset_stored s a)) (omega (arith, offset_stored s a, size_stored s a)) (omega (arith, offset_stored t b))
        (omega (arith, offset_stored t b, size_stored t b))
  ]

  two_apart : (s t : SizedSection) → Has s (sized_sections r) → Has t (sized_sections r) → IsBefore s t
      → is_stored (place_in r moved s) ≡ true → is_stored (place_in r moved t) ≡ true
      → Apart (file_range (place_in r moved s)) (file_range (place_in r moved t))
  two_apart s t s_here t_here less s_stored t_stored = elim (stored_stands r moved s s_here s_stored) [
    | inl s_added ↦ elim (stored_stands r moved t t_here t_stored) [
      | inl t_added ↦ two_added s t less s_added t_added
      | inr t_on ↦ apart-behind (file_range (place_in r moved s)) (file_range (place_in r moved t)) (stored_before_added t s t_on s_added)
    ]
    | inr s_on ↦ elim (stored_stands r moved t t_here t_stored) [
      | inl t_added ↦ apart-before (file_range (place_in r moved s)) (file_range (place_in r moved t)) (stored_before_added s t s_on t_added)
      | inr t_on ↦ two_stored s t less s_on t_on
    ]
  ]

  abbrev ApartIfStored : Place → Place → Type 0
  ApartIfStored x y = is_stored x ≡ true → is_stored y ≡ true → Apart (file_range x) (file_range y)

  pairs_apart : Pairs ApartIfStored (places r moved)
  unfolding places
  pairs_apart = pairs-map (place_in r moved) ApartIfStored (sized_sections r)
      (pairs-weaker IsBefore (λ s t. ApartIfStored (place_in r moved s) (place_in r moved t)) (sized_sections r)
      (λ s t s_here t_here less. two_apart s t s_here t_here less) (ordered r))

  pub stored_are_apart : all_apart (stored_ranges (places r moved)) ≡ true
  stored_are_apart =
      let stored : List Place = filter is_stored (places r moved) in
      all_apart-from (map file_range stored) (pairs-map file_range Apart stored
      (pairs-weaker ApartIfStored (λ x y. Apart (file_range x) (file_range y)) stored
      (λ x y x_here y_here h. h (filter-at is_stored (places r moved) x x_here).1 (filter-at is_stored (places r moved) y y_here).1)
      (pairs-filter is_stored ApartIfStored (places r moved) pairs_apart)))

  -- ## The header tables

  abbrev pub table_range : Range
  table_range = range (table_offset r moved) (length (written_segments r moved) * segment_header_size r.image.form)

  -- the table is no longer than it was looked with
  table_small : length (written_segments r moved) * segment_header_size r.image.form ≤ table_size_with r looked
  table_small =
      let few : length (written_segments r moved) ≤ length r.image.segments + looked = omega (arith, length-written r moved, enough) in
      mul-le-mul_right (segment_header_size r.image.form) few

  table_stays : (q : SegmentHeader) → table_load r ≡ Some q → table_offset r moved ≡ r.read.header.e_phoff
  unfolding table_offset
  table_stays q h =
      ap (λ (o : Option SegmentHeader). if is_some o then r.image.header.e_phoff else next_table r (segments_end r moved)) h ∙ reads.table_offset

  -- stored sections share no byte with the table
  table_clear_by : (s : SizedSection) → StandsAdded r moved s ⊎ StandsStored r moved s → (o : Option SegmentHeader) → table_load r ≡ o
      → Apart table_range (file_range (place_in r moved s))
  table_clear_by s (inl added) None is =
      let end : segments_end r moved ≤ table_offset r moved = table_behind r moved reads is in
      apart-behind table_range (file_range (place_in r moved s)) (omega (arith, end, added_ends s added))
  table_clear_by s (inr on) None is =
      let end : segments_end r moved ≤ table_offset r moved = table_behind r moved reads is in
      apart-behind table_range (file_range (place_in r moved s)) (omega (arith, end, stored_ends_kept s on, kept_before_segments_end r moved reads))
  table_clear_by s (inl added) (Some q) is =
      let kept = table_kept_in r moved looked reads clear q is in
      let end : kept.load.p_offset + kept.load.p_filesz ≤ kept_end r moved = before_kept_end r moved reads kept.load kept.here in
      let low : kept_end r moved ≤ added.is_moved.load.header.p_offset = (is_added r moved added.is_moved.load added.is_moved.here).in_file in
      apart-before table_range (file_range (place_in r moved s))
      (omega (arith, kept.ends, end, low, (slot_is s added).begins, offset_added s added, table_small, table_stays q is))
  table_clear_by s (inr on) (Some q) is =
      apart-within table_range (file_range (place_in r moved s)) (range r.read.header.e_phoff (table_size_with r looked))
      (range s.kept.section.sh_offset s.size)
      (table_apart r moved looked reads clear q is s on.is)
      (omega (arith, table_stays q is)) (omega (arith, table_stays q is, table_small)) (omega (arith, offset_stored s on))
      (omega (arith, offset_stored s on, size_stored s on))

  abbrev start_range : Range
  start_range = range 0 (file_header_size r.image.form)

  header_clear : (s : SizedSection) → Has s (sized_sections r) → is_stored (place_in r moved s) ≡ true
      → Apart start_range (file_range (place_in r moved s))
  header_clear s here stored = apart-before start_range (file_range (place_in r moved s)) (omega (arith, (held_now s here stored).behind))

  clear_of : (h : Range) → ((s : SizedSection) → Has s (sized_sections r) → is_stored (place_in r moved s) ≡ true
      → Apart h (file_range (place_in r moved s)))
      → list_all (λ x. apart h x) (stored_ranges (places r moved)) ≡ true
  clear_of h all = all-from (λ x. apart h x) (stored_ranges (places r moved)) (λ x here.
      let made = map-at file_range (filter is_stored (places r moved)) x here in
      let back = filter-at is_stored (places r moved) made.source made.here in
      let from = place_from made.source back.0 in
      let stored : is_stored (place_in r moved from.source) ≡ true = ap is_stored from.made ∙ back.1 in
      subst (λ (y : Range). apart h y ≡ true) (ap file_range from.made ∙ made.made) (all from.source from.here stored).tested)

  pub headers_clear : stored_clear_of (start_range ∷ table_range ∷ []) (places r moved) ≡ true
  headers_clear =
      let by_start = clear_of start_range header_clear in
      let by_table = clear_of table_range (λ s here stored. table_clear_by s (stored_stands r moved s here stored) (table_load r) refl) in
      and_from (list_all (λ x. apart start_range x) (stored_ranges (places r moved)))
      (list_all (λ x. apart table_range x) (stored_ranges (places r moved)) && true) by_start
      (and_from (list_all (λ x. apart table_range x) (stored_ranges (places r moved))) true by_table refl)

  -- stored sections are in loaded segments, apart from each other and from the headers
  pub are_loaded : sections_loaded (start_range ∷ table_range ∷ []) (written_segments r moved) (places r moved) ≡ true
  are_loaded =
      and_from (sections_held (written_segments r moved) (places r moved) && something_loaded (written_segments r moved) (places r moved))
      (stored_apart (start_range ∷ table_range ∷ []) (places r moved))
      (and_from (sections_held (written_segments r moved) (places r moved)) (something_loaded (written_segments r moved) (places r moved))
      are_held is_something)
      (and_from (all_apart (stored_ranges (places r moved))) (stored_clear_of (start_range ∷ table_range ∷ []) (places r moved))
      stored_are_apart headers_clear)

  -- where a program header says where the table is, the table is loaded
  table_loaded_by : list_any (λ p. p.p_type == PT_PHDR) (written_segments r moved) ≡ true → (o : Option SegmentHeader) → table_load r ≡ o
      → list_any (λ p. lies_in table_range (file_part p)) (loads_of (written_segments r moved)) ≡ true
  table_loaded_by any None is = absurd (reads.table_there (type_was r moved PT_PHDR refl any) is)
  table_loaded_by any (Some q) is =
      let kept = table_kept_in r moved looked reads clear q is in
      let back = filter-at is_loaded r.image.segments kept.load kept.here in
      let some = any-from is_loaded r.image.segments kept.load back.0 back.1 in
      any-from (λ p. lies_in table_range (file_part p)) (loads_of (written_segments r moved)) kept.load
      (load_written r moved reads some kept.load kept.here)
      (lies_in-from table_range (file_part kept.load) (omega (arith, kept.begins, table_stays q is))
      (omega (arith, kept.ends, table_stays q is, table_small)))

  pub table_is_loaded : header_table_loaded table_range (written_segments r moved) ≡ true
  table_is_loaded = elim (cases_Bool (list_any (λ p. p.p_type == PT_PHDR) (written_segments r moved))) [
    | inl any ↦
        or_right (not (list_any (λ p. p.p_type == PT_PHDR) (written_segments r moved)))
        (list_any (λ p. lies_in table_range (file_part p)) (loads_of (written_segments r moved)))
        (table_loaded_by any (table_load r) refl)
    | inr none ↦
        or_left (not (list_any (λ p. p.p_type == PT_PHDR) (written_segments r moved)))
        (list_any (λ p. lies_in table_range (file_part p)) (loads_of (written_segments r moved)))
        (not_from_false (list_any (λ p. p.p_type == PT_PHDR) (written_segments r moved)) none)
  ]
