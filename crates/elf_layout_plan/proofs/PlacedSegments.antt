-- The loaded segments of a plan are apart, and lie before all else in the file.
use Rattle.std.proofs.Common.{◌≡◌, ◌≤◌, ◌⊎◌, ℕ, ◌+◌, ◌*◌, Bool, true, false, List, map, length, refl, sym, ap, subst, inl, inr, Option, Some, None, arith}
use Rattle.std.specs.Prelude.{◌&&◌, ◌==◌, not, filter, is_some, nat_le, if◌then◌else◌}
use Rattle.std.specs.List.{list_any}
use Rattle.std.proofs.lemmas.Bool.{and_from, cases_Bool, le-leb}
use Rattle.elf_format.specs.declared.records.SegmentHeader.{SegmentHeader}
use Rattle.elf_format.specs.File.{is_loaded, loads_of}
use Rattle.elf_format.specs.Placement.{addresses_apart, file_part, file_parts_fit, memory_part, segments_apart}
use Rattle.elf_format.specs.Ranges.{all_apart, end_of}
use Rattle.elf_format.specs.Records.{file_header_size, segment_header_size}
use Rattle.elf_layout_plan.specs.Added.{AddedLoad, added_loads, greatest, had_memory, header_count, keeps_range, keeps_section_range, kept_end, memory_end}
use Rattle.elf_layout_plan.specs.Anchors.{HeaderTable, Itself, Anchor, Notes, OneSection, is_moved, anchor_of}
use Rattle.elf_layout_plan.specs.Memory.{Resized, SizedSection, has_lost_load, sized_sections, table_load, takes_memory}
use Rattle.elf_layout_plan.specs.Standing.{UnloadedSlot, content_end, unloaded_slots, unloaded_start, next_table, sections_offset, segments_end, table_offset}
use Rattle.elf_layout_plan.specs.Written.{written_segments}
use Rattle.elf_layout_plan.proofs.PlacedLists.{Has, MadeOf, Pairs, all-from, append-at, append-left, append-right, filter-at, filter-from, greatest-at, greatest-first, has_none, map-at, map-from, pairs-append, pairs-map, pairs-none, pairs-weaker}
use Rattle.elf_layout_plan.proofs.PlacedRanges.{Apart, all_apart-from, apart-before}
use Rattle.elf_layout_plan.proofs.PlacedRead.{ReadsPlaced}
use Rattle.elf_layout_plan.proofs.PlacedAdded.{StandsBefore, added_apart, is_added}
use Rattle.elf_layout_plan.proofs.PlacedWritten.{headers_added, anchor-load, no_loads, written_loads}

module _ (r : Resized) (moved : List ℕ) (reads : ReadsPlaced r) where
  -- ## Where what was read ends

  keeps-itself : (p : SegmentHeader) → anchor_of r.read r.image p ≡ Itself → keeps_range r moved p ≡ true
  keeps-itself p h = ap (λ (l : Anchor). elim l as (λ _. Bool) [
    | Itself ↦ true
    | HeaderTable ↦ p.p_filesz == header_count r moved * segment_header_size r.image.form && p.p_memsz == p.p_filesz
    | OneSection s ↦ keeps_section_range r moved p s
    | Notes notes ↦ not (list_any (is_moved moved) notes)
  ]) h

  pub before_kept_end : (p : SegmentHeader) → Has p (loads_of r.image.segments) → end_of (file_part p) ≤ kept_end r moved
  unfolding kept_end
  before_kept_end p h =
      let back = filter-at is_loaded r.image.segments p h in
      let keeps = filter-from (keeps_range r moved) r.image.segments p back.0 (keeps-itself p (anchor-load r moved p back.1)) in
      let ends : List ℕ = map (λ q. end_of (file_part q)) (filter (keeps_range r moved) r.image.segments) in
      let there = map-from (λ q. end_of (file_part q)) (filter (keeps_range r moved) r.image.segments) p keeps in
      let in_file = le-leb (end_of (file_part p)) (length r.image.source) (reads.in_file p h) in
      greatest-at (file_header_size r.image.form) (filter (λ end. nat_le end (length r.image.source)) ends) (end_of (file_part p))
      (filter-from (λ end. nat_le end (length r.image.source)) ends (end_of (file_part p)) there in_file)

  pub header_before_kept_end : file_header_size r.image.form ≤ kept_end r moved
  unfolding kept_end
  header_before_kept_end =
      greatest-first (file_header_size r.image.form)
      (filter (λ end. nat_le end (length r.image.source)) (map (λ q. end_of (file_part q)) (filter (keeps_range r moved) r.image.segments)))

  abbrev section_ends : List ℕ
  section_ends = map (λ s. s.kept.section.sh_addr + s.kept.section.sh_size)
      (filter (λ s. had_memory r.image s.kept.section) (sized_sections r))

  pub before_memory_end : (p : SegmentHeader) → Has p (loads_of r.image.segments) → end_of (memory_part p) ≤ memory_end r
  unfolding memory_end
  before_memory_end p h =
      let ends : List ℕ = map (λ q. end_of (memory_part q)) (loads_of r.image.segments) in
      let first : end_of (memory_part p) ≤ greatest 0 ends = greatest-at 0 ends (end_of (memory_part p))
      (map-from (λ q. end_of (memory_part q)) (loads_of r.image.segments) p h) in
      omega (arith, first, greatest-first (greatest 0 ends) section_ends)

  pub section_before_memory_end : (s : SizedSection) → Has s (sized_sections r) → takes_memory s.kept.section ≡ true
      → (s.kept.section.sh_size == 0) ≡ false → has_lost_load r.image s.kept.section ≡ false
      → s.kept.section.sh_addr + s.kept.section.sh_size ≤ memory_end r
  unfolding memory_end
  section_before_memory_end s h takes filled not_lost =
      let test : SizedSection → Bool = λ x. had_memory r.image x.kept.section in
      let there = filter-from test (sized_sections r) s h
      (and_from (takes_memory s.kept.section && not (s.kept.section.sh_size == 0)) (not (has_lost_load r.image s.kept.section))
      (and_from (takes_memory s.kept.section) (not (s.kept.section.sh_size == 0)) takes (ap not filled)) (ap not not_lost)) in
      greatest-at (greatest 0 (map (λ q. end_of (memory_part q)) (loads_of r.image.segments))) section_ends
      (s.kept.section.sh_addr + s.kept.section.sh_size)
      (map-from (λ x. x.kept.section.sh_addr + x.kept.section.sh_size) (filter test (sized_sections r)) s there)

  -- ## The loaded segments that are written

  pub load_cases : (q : SegmentHeader) → Has q (loads_of (written_segments r moved))
      → Has q (loads_of r.image.segments) ⊎ MadeOf (λ (load : AddedLoad). load.header) (added_loads r moved) q
  load_cases q h = elim (cases_Bool (list_any is_loaded r.image.segments)) [
    | inl any ↦ elim (append-at (loads_of r.image.segments) (headers_added r moved) q
        (subst (λ (l : List SegmentHeader). Has q l) (written_loads r moved any) h)) [
          | inl was ↦ inl was
          | inr more ↦ inr (map-at (λ load. load.header) (added_loads r moved) q more)
        ]
    | inr none ↦ absurd (has_none q (subst (λ (l : List SegmentHeader). Has q l) (no_loads r moved none) h))
  ]

  -- where some segment is loaded, the image's and the added ones are written
  pub load_written : list_any is_loaded r.image.segments ≡ true → (q : SegmentHeader) → Has q (loads_of r.image.segments)
      → Has q (loads_of (written_segments r moved))
  load_written any q h = subst (λ (l : List SegmentHeader). Has q l) (sym (written_loads r moved any))
      (append-left (loads_of r.image.segments) (headers_added r moved) q h)

  pub added_written : list_any is_loaded r.image.segments ≡ true → (load : AddedLoad) → Has load (added_loads r moved)
      → Has load.header (loads_of (written_segments r moved))
  added_written any load h = subst (λ (l : List SegmentHeader). Has load.header l) (sym (written_loads r moved any))
      (append-right (loads_of r.image.segments) (headers_added r moved) load.header (map-from (λ x. x.header) (added_loads r moved) load h))

  fits : (q : SegmentHeader) → Has q (loads_of (written_segments r moved)) → q.p_filesz ≤ q.p_memsz
  fits q h = elim (load_cases q h) [
    | inl was ↦ reads.fit q was
    | inr new ↦
        omega (
          arith,
          (is_added r moved new.source new.here).whole,
          ap (λ (x : SegmentHeader). x.p_filesz) new.made,
          ap (λ (x : SegmentHeader). x.p_memsz) new.made,
        )
  ]

  -- no loaded segment has more bytes in the file than in memory
  pub parts_fit : file_parts_fit (written_segments r moved) ≡ true
  parts_fit = all-from (λ p. nat_le p.p_filesz p.p_memsz) (loads_of (written_segments r moved)) (λ q h. le-leb q.p_filesz q.p_memsz (fits q h))

  pairs_written : (R : SegmentHeader → SegmentHeader → Type 0) → Pairs R (loads_of r.image.segments)
      → Pairs (λ l m. R l.header m.header) (added_loads r moved)
      → ((p : SegmentHeader) (load : AddedLoad) → Has p (loads_of r.image.segments) → Has load (added_loads r moved) → R p load.header)
      → Pairs R (loads_of (written_segments r moved))
  pairs_written R was new across = elim (cases_Bool (list_any is_loaded r.image.segments)) [
    | inl any ↦ subst (λ (l : List SegmentHeader). Pairs R l) (sym (written_loads r moved any))
        (pairs-append R (loads_of r.image.segments) (headers_added r moved) was (pairs-map (λ load. load.header) R (added_loads r moved) new)
        (λ p q p_here q_here.
        let made = map-at (λ load. load.header) (added_loads r moved) q q_here in
        subst (λ (x : SegmentHeader). R p x) made.made (across p made.source p_here made.here)))
    | inr none ↦ subst (λ (l : List SegmentHeader). Pairs R l) (sym (no_loads r moved none)) (pairs-none R)
  ]

  pub memory_apart : Pairs (λ p q. Apart (memory_part p) (memory_part q)) (loads_of (written_segments r moved))
  memory_apart = pairs_written (λ p q. Apart (memory_part p) (memory_part q)) reads.memory_apart
      (pairs-weaker StandsBefore (λ l m. Apart (memory_part l.header) (memory_part m.header)) (added_loads r moved)
      (λ l m _ _ h. apart-before (memory_part l.header) (memory_part m.header) h.in_memory) (added_apart r moved))
      (λ p load p_here here.
      let low : end_of (memory_part p) ≤ memory_end r = before_memory_end p p_here in
      let high : memory_end r ≤ load.header.p_vaddr = (is_added r moved load here).in_memory in
      apart-before (memory_part p) (memory_part load.header) (omega (arith, low, high)))

  pub file_apart : Pairs (λ p q. Apart (file_part p) (file_part q)) (loads_of (written_segments r moved))
  file_apart = pairs_written (λ p q. Apart (file_part p) (file_part q)) reads.file_apart
      (pairs-weaker StandsBefore (λ l m. Apart (file_part l.header) (file_part m.header)) (added_loads r moved)
      (λ l m _ _ h. apart-before (file_part l.header) (file_part m.header) h.in_file) (added_apart r moved))
      (λ p load p_here here.
      let low : end_of (file_part p) ≤ kept_end r moved = before_kept_end p p_here in
      let high : kept_end r moved ≤ load.header.p_offset = (is_added r moved load here).in_file in
      apart-before (file_part p) (file_part load.header) (omega (arith, low, high)))

  -- loaded segments share no address and no byte of the file
  pub are_apart : segments_apart (written_segments r moved) ≡ true
  are_apart =
      let loads : List SegmentHeader = loads_of (written_segments r moved) in
      and_from (addresses_apart (written_segments r moved)) (all_apart (map file_part loads))
      (all_apart-from (map memory_part loads) (pairs-map memory_part Apart loads memory_apart))
      (all_apart-from (map file_part loads) (pairs-map file_part Apart loads file_apart))

  -- ## What stands behind them

  pub kept_before_segments_end : kept_end r moved ≤ segments_end r moved
  unfolding segments_end
  kept_before_segments_end = greatest-first (kept_end r moved) (map (λ load. end_of (file_part load.header)) (added_loads r moved))

  pub added_before_segments_end : (load : AddedLoad) → Has load (added_loads r moved) → end_of (file_part load.header) ≤ segments_end r moved
  unfolding segments_end
  added_before_segments_end load h =
      greatest-at (kept_end r moved) (map (λ x. end_of (file_part x.header)) (added_loads r moved)) (end_of (file_part load.header))
      (map-from (λ x. end_of (file_part x.header)) (added_loads r moved) load h)

  pub load_before_segments_end : (q : SegmentHeader) → Has q (loads_of (written_segments r moved)) → end_of (file_part q) ≤ segments_end r moved
  load_before_segments_end q h = elim (load_cases q h) [
    | inl was ↦ omega (arith, before_kept_end q was, kept_before_segments_end)
    | inr new ↦ subst (λ (x : SegmentHeader). end_of (file_part x) ≤ segments_end r moved) new.made (added_before_segments_end new.source new.here)
  ]

  -- the table of program headers stands behind them, where it isn't loaded
  pub table_behind : table_load r ≡ None → segments_end r moved ≤ table_offset r moved
  unfolding table_offset
  table_behind none = subst (λ (o : Option SegmentHeader). segments_end r
      moved ≤ (if is_some o then r.image.header.e_phoff else next_table r (segments_end r moved))) (sym none) behind
    where
      behind : segments_end r moved ≤ next_table r (segments_end r moved)
      behind = omega arith

  unloaded_by : (o : Option SegmentHeader) → (table_load r ≡ o)
      → segments_end r moved ≤ (if is_some o then segments_end r moved else table_offset r moved + header_count r moved *
      segment_header_size r.image.form)
  unloaded_by None h = omega (arith, table_behind h)
  unloaded_by (Some q) h = omega arith

  pub segments_before_unloaded : segments_end r moved ≤ unloaded_start r moved
  unfolding unloaded_start
  segments_before_unloaded = unloaded_by (table_load r) refl

  pub unloaded_before_end : unloaded_start r moved ≤ content_end r moved
  unfolding content_end
  unloaded_before_end = greatest-first (unloaded_start r moved) (map (λ s. s.offset + s.size) (unloaded_slots r moved))

  pub slot_before_end : (s : UnloadedSlot) → Has s (unloaded_slots r moved) → s.offset + s.size ≤ content_end r moved
  unfolding content_end
  slot_before_end s h =
      greatest-at (unloaded_start r moved) (map (λ x. x.offset + x.size) (unloaded_slots r moved)) (s.offset + s.size)
      (map-from (λ x. x.offset + x.size) (unloaded_slots r moved) s h)

  pub end_before_sections : content_end r moved ≤ sections_offset r moved
  unfolding sections_offset
  end_before_sections = omega arith

  pub segments_before_end : segments_end r moved ≤ content_end r moved
  segments_before_end = omega (arith, segments_before_unloaded, unloaded_before_end)
