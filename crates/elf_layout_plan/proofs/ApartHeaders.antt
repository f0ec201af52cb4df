-- The headers of a plan stand in memory where their blocks are.
use Rattle.std.proofs.Common.{◌≡◌, ℕ, ◌+◌, ◌-◌, ◌*◌, ◌<◌, ◌≤◌, Bool, true, false, not, cond, ◌&&◌, List, [], ◌∷◌, map, length, refl, sym, ap, ◌∙◌, subst, inl, inr, arith, Option, Some, None}
use Rattle.std.specs.Prelude.{◌==◌, filter, find, is_some, nat_le, nat_lt, if◌then◌else◌}
use Rattle.std.specs.List.{list_any, slice_get}
use Rattle.std.specs.Option.{option_map}
use Rattle.std.proofs.Math.Nat.{mul-le-mul_right}
use Rattle.std.proofs.lemmas.Bool.{and_from, and_parts, false≢true, le-leb, leb-true, lt-leb, lt-ltb}
use Rattle.std.proofs.lemmas.Option.{none-some, same_Some, slice_get_within}
use Rattle.patch_bytes.specs.declared.number.Wide.{Wide}
use Rattle.patch_bytes.specs.declared.number.Wide.TheVariants.{W32, W64}
use Rattle.elf_format.specs.declared.form.Form.{Form}
use Rattle.elf_format.specs.declared.range.Range.{Range}
use Rattle.elf_format.specs.declared.records.SegmentHeader.{SegmentHeader}
use Rattle.elf_format.specs.File.{is_loaded, loads_of}
use Rattle.elf_format.specs.Form.{by_class}
use Rattle.elf_format.specs.Options.{list_at}
use Rattle.elf_format.specs.Placement.{file_part}
use Rattle.elf_format.specs.Ranges.{apart, end_of, lies_in, range}
use Rattle.elf_format.specs.Records.{file_header_size, segment_header_size}
use Rattle.elf_tables.specs.Edited.{IsReclaimed}
use Rattle.elf_image_headers.specs.Segments.{loads_end}
use Rattle.elf_layout_plan.specs.Added.{AddedLoad, added_loads, header_count, keeps_range, keeps_section_range, kept_end, load_alignment, memory_end}
use Rattle.elf_layout_plan.specs.Apart.{addresses_of}
use Rattle.elf_layout_plan.specs.Blocks.{Block}
use Rattle.elf_layout_plan.specs.Anchors.{HeaderTable, Itself, Anchor, Notes, OneSection, is_moved, anchor_of}
use Rattle.elf_layout_plan.specs.Memory.{Resized, block_in_load, fixed_block, loaded_over, table_at_read, table_load, table_size_with}
use Rattle.elf_layout_plan.specs.Rounds.{added_flags, headers_needed, sections_at}
use Rattle.elf_layout_plan.specs.Standing.{next_table, segments_end, table_offset}
use Rattle.elf_layout_plan.specs.Written.{written_segments}
use Rattle.elf_layout_plan.proofs.ApartBlocks.{apart-meet, greatest-each, greatest-start}
use Rattle.elf_layout_plan.proofs.ApartFacts.{AreFacts, bare}
use Rattle.elf_layout_plan.proofs.ApartFixed.{file_header_blocks, table_blocks}
use Rattle.elf_layout_plan.proofs.ApartLeft.{find_left}
use Rattle.elf_layout_plan.proofs.ApartLists.{Each, at-map, each-at, each-both, each-filter, each-from, each-map, each-more, each-unfilter, each-unmap, filter-at, find-at, find-none, map-at, pairs-at}
use Rattle.elf_layout_plan.proofs.ApartMemory.{loads_from-headers}
use Rattle.elf_layout_plan.proofs.ApartStays.{each_load, loads_file_end}
use Rattle.elf_layout_plan.proofs.ApartWritten.{added_headers, length-plan, load_anchor, plan_loads-each, plan_loads-find}

-- a range that lies in another
lies : (r outer : Range) → lies_in r outer ≡ true → (outer.start ≤ r.start) × (end_of r ≤ end_of outer)
lies r outer h =
    let (begins, ends) = and_parts (nat_le outer.start r.start) (nat_le (end_of r) (end_of outer)) h in
    (leb-true outer.start r.start begins, leb-true (end_of r) (end_of outer) ends)

lies-before : (r outer : Range) → r.start < outer.start → lies_in r outer ≡ false
lies-before r outer h = ap (λ b. b && nat_le (end_of r) (end_of outer)) (lt-leb outer.start r.start h)

lies-past : (r outer : Range) → end_of outer < end_of r → lies_in r outer ≡ false
lies-past r outer h = and_false (nat_le outer.start r.start) (nat_le (end_of r) (end_of outer)) (lt-leb (end_of r) (end_of outer) h)
  where
    and_false : (a b : Bool) → b ≡ false → (a && b) ≡ false
    and_false true b e = e
    and_false false b e = refl

header-positive : (form : Form) → 0 < file_header_size form
header-positive form = by_wide form.wide
  where
    by_wide : (w : Wide) → 0 < by_class w 52 64
    by_wide W32 = omega arith
    by_wide W64 = omega arith

entry-positive : (form : Form) → 0 < segment_header_size form
entry-positive form = by_wide form.wide
  where
    by_wide : (w : Wide) → 0 < by_class w 32 56
    by_wide W32 = omega arith
    by_wide W64 = omega arith

times-positive : (n k : ℕ) → 0 < n → 0 < k → 0 < n * k
times-positive n k a b = let le = mul-le-mul_right {m = 1} {n = n} k a in omega (arith, le, b)

-- a test that looks at nothing that edits change finds the same segment
find-alike : (test : SegmentHeader → Bool) (same : (p : SegmentHeader) → test (bare p) ≡ test p) (ps : List SegmentHeader) → option_map bare (find test ps) ≡ find test (map bare ps)
find-alike test same [] = refl
find-alike test same (p ∷ ps) = by_test (test p) refl (find-alike test same ps) ∙ ap (λ b. cond b (Some (bare p)) (find test (map bare ps))) (sym (same p))
  where
    by_test : (b : Bool) → test p ≡ b → option_map bare (find test ps) ≡ find test (map bare ps)
        → option_map bare (cond b (Some p) (find test ps)) ≡ cond b (Some (bare p)) (find test (map bare ps))
    by_test true e rest = refl
    by_test false e rest = rest

some-mapped : (o : Option SegmentHeader) (q : SegmentHeader) → option_map bare o ≡ Some (bare q) → (p : SegmentHeader) × (o ≡ Some p) × (bare p ≡ bare q)
some-mapped None q e = absurd (none-some (bare q) e)
some-mapped (Some p) q e = (p, refl, same_Some (bare p) (bare q) e)

module _ (r : Resized) (facts : AreFacts r) (moved : List ℕ) where
  found_alike : (test : SegmentHeader → Bool) → ((p : SegmentHeader) → test (bare p) ≡ test p) → (q : SegmentHeader) → find test (loads_of r.image.segments) ≡ Some q
      → (p : SegmentHeader) × (find test (loads_of facts.left) ≡ Some p) × (bare p ≡ bare q)
  found_alike test same q e =
      some-mapped (find test (loads_of facts.left)) q
      (find-alike test same (loads_of facts.left) ∙ ap (find test) (sym facts.loads) ∙ sym (find-alike test same (loads_of r.image.segments)) ∙ ap (option_map bare) e)

  -- ## Where segments end in the file

  keeps_by : SegmentHeader → Anchor → Bool
  keeps_by p anchor = elim anchor [
    | Itself ↦ true
    | HeaderTable ↦ p.p_filesz == header_count r moved * segment_header_size r.image.form && p.p_memsz == p.p_filesz
    | OneSection s ↦ keeps_section_range r moved p s
    | Notes notes ↦ not (list_any (is_moved moved) notes)
  ]

  keeps_is : (p : SegmentHeader) → keeps_range r moved p ≡ keeps_by p (anchor_of r.read r.image p)
  unfolding keeps_by
  keeps_is p = refl

  load_keeps : (p : SegmentHeader) → is_loaded p ≡ true → keeps_range r moved p ≡ true
  unfolding keeps_by
  load_keeps p h = keeps_is p ∙ ap (keeps_by p) (load_anchor r moved p h)

  pub kept_end-header : file_header_size r.image.form ≤ kept_end r moved
  unfolding kept_end
  kept_end-header =
      greatest-start (file_header_size r.image.form) (filter (λ end. nat_le end (length r.image.source)) (map (λ p. end_of (file_part p)) (filter (keeps_range r moved) r.image.segments)))

  kept_end-each : Each (λ p. keeps_range r moved p ≡ true → nat_le (end_of (file_part p)) (length r.image.source) ≡ true → end_of (file_part p) ≤ kept_end r moved) r.image.segments
  unfolding kept_end
  kept_end-each =
      let kept = filter (keeps_range r moved) r.image.segments in
      let ends : List ℕ = map (λ p. end_of (file_part p)) kept in
      let inside : List ℕ = filter (λ end. nat_le end (length r.image.source)) ends in
      each-unfilter (λ p. nat_le (end_of (file_part p)) (length r.image.source) ≡ true → end_of (file_part p) ≤ kept_end r moved) (keeps_range r moved) r.image.segments
      (each-unmap (λ m. nat_le m (length r.image.source) ≡ true → m ≤ kept_end r moved) (λ (p : SegmentHeader). end_of (file_part p)) kept
      (each-unfilter (λ m. m ≤ kept_end r moved) (λ end. nat_le end (length r.image.source)) ends (greatest-each (file_header_size r.image.form) inside)))

  pub kept_end-loads : Each (λ p. end_of (file_part p) ≤ kept_end r moved) (loads_of r.image.segments)
  kept_end-loads =
      let Ends : SegmentHeader → Type 0 = λ p. keeps_range r moved p ≡ true → nat_le (end_of (file_part p)) (length r.image.source) ≡ true → end_of (file_part p) ≤ kept_end r moved in
      let Inside : SegmentHeader → Type 0 = λ p. end_of (file_part p) ≤ length r.image.source in
      let inside = each_load r facts (λ p. end_of (file_part p) ≤ length r.image.source) facts.in_file in
      each-more (λ p. ((is_loaded p ≡ true) × Ends p) × Inside p) (λ p. end_of (file_part p) ≤ kept_end r moved)
      (λ p h. h.0.1 (load_keeps p h.0.0) (le-leb (end_of (file_part p)) (length r.image.source) h.1)) (loads_of r.image.segments)
      (each-both (λ p. (is_loaded p ≡ true) × Ends p) Inside (loads_of r.image.segments) (each-filter Ends is_loaded r.image.segments kept_end-each) inside)

  pub added_low : Each (λ p. kept_end r moved ≤ p.p_offset) (added_headers r moved)
  unfolding added_loads
  added_low =
      each-map (λ p. kept_end r moved ≤ p.p_offset) (λ (load : AddedLoad). load.header) (added_loads r moved)
      (loads_from-headers r.image.moves_dynamic (load_alignment r.read r.image) (kept_end r moved) (memory_end r) (added_flags r moved) (sections_at r moved))

  segments_end-low : kept_end r moved ≤ segments_end r moved
  unfolding segments_end
  segments_end-low = greatest-start (kept_end r moved) (map (λ load. end_of (file_part load.header)) (added_loads r moved))

  segments_end-added : Each (λ p. end_of (file_part p) ≤ segments_end r moved) (added_headers r moved)
  unfolding segments_end
  segments_end-added =
      each-map (λ p. end_of (file_part p) ≤ segments_end r moved) (λ (load : AddedLoad). load.header) (added_loads r moved)
      (each-unmap (λ m. m ≤ segments_end r moved) (λ (load : AddedLoad). end_of (file_part load.header)) (added_loads r moved)
      (greatest-each (kept_end r moved) (map (λ load. end_of (file_part load.header)) (added_loads r moved))))

  pub segments_end-loads : Each (λ p. end_of (file_part p) ≤ segments_end r moved) (loads_of (written_segments r moved))
  segments_end-loads =
      plan_loads-each (λ p. end_of (file_part p) ≤ segments_end r moved) r moved
      (each-more (λ p. end_of (file_part p) ≤ kept_end r moved) (λ p. end_of (file_part p) ≤ segments_end r moved) (λ p h. omega (arith, h, segments_end-low)) (loads_of r.image.segments) kept_end-loads)
      segments_end-added

  -- ## Addresses of headers

  -- a range of addresses at the front of one of some blocks, of those that are no section's, and where memory was
  abbrev pub IsUnder : List Block → Range → Type 0
  IsUnder blocks a = (i : ℕ) × (b : Block) × (slice_get blocks i ≡ Some b) × (b.start ≡ a.start) × (a.size ≤ b.size) × (b.section ≡ None) × (end_of a ≤ memory_end r)

  -- a range that is found in a segment of the image, beside the block of the one that was read
  under_found : (part : Range) (size : ℕ) (old : Range) (old_size : ℕ) (q p : SegmentHeader) (j : ℕ) → bare p ≡ bare q → part.start ≡ old.start → size ≤ old_size
      → slice_get (loads_of r.image.segments) j ≡ Some q → lies_in part (file_part q) ≡ true → size ≡ part.size
      → IsUnder (block_in_load old old_size (Some p)) (range (q.p_vaddr + part.start - q.p_offset) size)
  under_found part size old old_size q p j alike start less at inside sized =
      let (begins, ends) = lies part (file_part q) inside in
      let address : p.p_vaddr ≡ q.p_vaddr = ap (λ (x : SegmentHeader). x.p_vaddr) alike in
      let offset : p.p_offset ≡ q.p_offset = ap (λ (x : SegmentHeader). x.p_offset) alike in
      let low : q.p_vaddr + q.p_filesz ≤ memory_end r = each-at (λ p. p.p_vaddr + p.p_filesz ≤ memory_end r) (loads_of r.image.segments) (loads_file_end r facts) j q at in
      (0, fixed_block (p.p_vaddr + old.start - p.p_offset) old_size, refl, omega (arith, address, offset, start), less, refl, omega (arith, begins, ends, low, sized))

  -- the segment of the file header is left
  header_left : loaded_over (range 0 (file_header_size r.read.form)) facts.left ≡ loaded_over (range 0 (file_header_size r.read.form)) r.read.segments
  header_left =
      let front = range 0 (file_header_size r.read.form) in
      find_left r.read.header.e_phoff (loads_end r.image.segments) (λ p. lies_in front (file_part p))
      (λ p went. lies-before front (file_part p) (let no : p.p_offset ≡ 0 → ⊥ = went.no_header in omega arith)) r.read.segments facts.left facts.are_left

  file_header_under : Each (IsUnder (file_header_blocks r)) (addresses_of (range 0 (file_header_size r.read.form)) (written_segments r moved))
  file_header_under = by_option (loaded_over part (written_segments r moved)) refl
    where
      part : Range
      part = range 0 (file_header_size r.read.form)

      by_option : (o : Option SegmentHeader) → loaded_over (range 0 (file_header_size r.read.form)) (written_segments r moved) ≡ o
          → Each (IsUnder (file_header_blocks r)) (list_at (λ (p : SegmentHeader). range (p.p_vaddr + 0 - p.p_offset) (file_header_size r.read.form) ∷ []) o)
      by_option None e = tt
      by_option (Some q) e =
          let front = range 0 (file_header_size r.read.form) in
          let test : SegmentHeader → Bool = λ p. lies_in front (file_part p) in
          let header : file_header_size r.image.form ≤ kept_end r moved = kept_end-header in
          let positive = header-positive r.image.form in
          let none : find test (added_headers r moved) ≡ None =
          find-none test (added_headers r moved) (each-more (λ p. kept_end r moved ≤ p.p_offset) (λ p. test p ≡ false) (λ p h. lies-before front (file_part p) (omega (arith, h, header, positive))) (added_headers r moved) added_low) in
          let found : find test (loads_of r.image.segments) ≡ Some q = sym (plan_loads-find test r moved none) ∙ e in
          let (p, at_left, alike) = found_alike test (λ p. refl) q found in
          let at_p : find test (loads_of r.read.segments) ≡ Some p = sym header_left ∙ at_left in
          let (j, at_q, inside) = find-at test (loads_of r.image.segments) q found in
          let P : Option SegmentHeader → Type 0 = λ o. IsUnder (block_in_load front (file_header_size r.read.form) o) (range (q.p_vaddr + 0 - q.p_offset) (file_header_size r.read.form)) in
          (subst P (sym at_p) (under_found front (file_header_size r.read.form) front (file_header_size r.read.form) q p j alike refl (omega arith) at_q inside refl), tt)

  -- ## The program header table

  abbrev plan_segments : List SegmentHeader
  plan_segments = written_segments r moved

  abbrev entry : ℕ
  entry = segment_header_size r.image.form

  abbrev plan_table : Range
  plan_table = range (table_offset r moved) (length plan_segments * entry)

  offset_kept : (p : SegmentHeader) → table_load r ≡ Some p → table_offset r moved ≡ r.image.header.e_phoff
  unfolding table_offset
  offset_kept p e = ap (λ o. if is_some o then r.image.header.e_phoff else next_table r (segments_end r moved)) e

  offset_behind : table_load r ≡ None → segments_end r moved ≤ table_offset r moved
  unfolding table_offset
  offset_behind e =
      let offset : table_offset r moved ≡ next_table r (segments_end r moved) = ap (λ o. if is_some o then r.image.header.e_phoff else next_table r (segments_end r moved)) e in
      omega (arith, offset)

  -- what is among program headers makes the table longer than nothing
  some_entries : (ps : List SegmentHeader) (k i : ℕ) (p : SegmentHeader) → 0 < k → slice_get (loads_of ps) i ≡ Some p → 0 < length ps * k
  some_entries ps k i p positive at =
      let (j, at_j, _) = filter-at is_loaded ps i p at in
      let within = slice_get_within ps j p at_j in
      times-positive (length ps) k (omega (arith, within)) positive

  -- behind all segments no loaded segment has it
  none_behind : table_load r ≡ None → loaded_over plan_table plan_segments ≡ None
  none_behind e =
      let test : SegmentHeader → Bool = λ p. lies_in plan_table (file_part p) in
      find-none test (loads_of plan_segments) (each-from (λ q. test q ≡ false) (loads_of plan_segments) (λ j q at.
      let low : end_of (file_part q) ≤ segments_end r moved = each-at (λ p. end_of (file_part p) ≤ segments_end r moved) (loads_of plan_segments) segments_end-loads j q at in
      let behind : segments_end r moved ≤ table_offset r moved = offset_behind e in
      let some : 0 < length plan_segments * entry = some_entries plan_segments entry j q (entry-positive r.image.form) at in
      lies-past plan_table (file_part q) (omega (arith, low, behind, some))))

  module _ (looked : ℕ) (enough : headers_needed r moved ≤ looked) where
    entries_fit : length plan_segments * entry ≤ table_size_with r looked
    entries_fit =
        let count = length-plan r moved in
        mul-le-mul_right {m = length plan_segments} {n = length r.image.segments + looked} entry (omega (arith, count, enough))

    module _ (p : SegmentHeader) (was : table_load r ≡ Some p) where
      start_same : table_offset r moved ≡ r.read.header.e_phoff
      start_same = offset_kept p was ∙ facts.table

      -- the table had some bytes
      some_at_read : 0 < length r.read.segments * segment_header_size r.read.form
      some_at_read =
          let (i, at, _) = find-at (λ q. lies_in (table_at_read r) (file_part q)) (loads_of r.read.segments) p was in
          some_entries r.read.segments (segment_header_size r.read.form) i p (entry-positive r.read.form) at

      -- the segment that had the table is left
      table_left : loaded_over (table_at_read r) facts.left ≡ table_load r
      table_left =
          find_left r.read.header.e_phoff (loads_end r.image.segments) (λ q. lies_in (table_at_read r) (file_part q))
          (λ q went. not_over q went (lies_in (table_at_read r) (file_part q)) refl) r.read.segments facts.left facts.are_left
        where
          not_over : (q : SegmentHeader) → IsReclaimed r.read.header.e_phoff (loads_end r.image.segments) q → (b : Bool) → lies_in (table_at_read r) (file_part q) ≡ b → b ≡ false
          not_over q went false e = refl
          not_over q went true e =
              let (begins, ends) = lies (table_at_read r) (file_part q) e in
              let some = some_at_read in
              let has : (nat_le q.p_offset r.read.header.e_phoff && nat_lt r.read.header.e_phoff (q.p_offset + q.p_filesz)) ≡ true =
              and_from (nat_le q.p_offset r.read.header.e_phoff) (nat_lt r.read.header.e_phoff (q.p_offset + q.p_filesz)) (le-leb q.p_offset r.read.header.e_phoff begins)
              (lt-ltb r.read.header.e_phoff (q.p_offset + q.p_filesz) (omega (arith, ends, some))) in
              absurd (false≢true (sym went.no_table ∙ has))

      -- the segment that had the table, and the table's first byte in it
      record HadTable : Type 0 where
        place : ℕ
        is_there : slice_get (loads_of facts.left) place ≡ Some p
        begins : p.p_offset ≤ table_offset r moved
        ends : table_offset r moved < p.p_offset + p.p_filesz
        kept : p.p_offset + p.p_filesz ≤ kept_end r moved

      had_table : HadTable
      had_table =
          let (i, at, inside) = find-at (λ q. lies_in (table_at_read r) (file_part q)) (loads_of facts.left) p (table_left ∙ was) in
          let (begins, ends) = lies (table_at_read r) (file_part p) inside in
          let some = some_at_read in
          let in_image : slice_get (map bare (loads_of r.image.segments)) i ≡ Some (bare p) = subst (λ (l : List SegmentHeader). slice_get l i ≡ Some (bare p)) (sym facts.loads) (at-map bare (loads_of facts.left) i p at) in
          let (q, at_q, alike) = map-at bare (loads_of r.image.segments) i (bare p) in_image in
          let offset : q.p_offset ≡ p.p_offset = ap (λ (x : SegmentHeader). x.p_offset) alike in
          let size : q.p_filesz ≡ p.p_filesz = ap (λ (x : SegmentHeader). x.p_filesz) alike in
          let kept = each-at (λ p. end_of (file_part p) ≤ kept_end r moved) (loads_of r.image.segments) kept_end-loads i q at_q in
          record {
            place = i;
            is_there = at;
            begins = omega (arith, begins, start_same);
            ends = omega (arith, ends, some, start_same);
            kept = omega (arith, kept, offset, size);
          }

      -- no added segment has it
      none_added : find (λ q. lies_in plan_table (file_part q)) (added_headers r moved) ≡ None
      none_added =
          let had = had_table in
          let before : table_offset r moved < kept_end r moved = let a = had.ends in let b = had.kept in omega (arith, a, b) in
          find-none (λ q. lies_in plan_table (file_part q)) (added_headers r moved)
          (each-more (λ q. kept_end r moved ≤ q.p_offset) (λ q. lies_in plan_table (file_part q) ≡ false) (λ q h. lies-before plan_table (file_part q) (omega (arith, h, before))) (added_headers r moved) added_low)

      -- the one that has it now is the one that had it
      same_segment : (j : ℕ) (q : SegmentHeader) → slice_get (loads_of r.image.segments) j ≡ Some q → lies_in plan_table (file_part q) ≡ true → 0 < length plan_segments * entry → bare p ≡ bare q
      same_segment j q at inside some =
          let had = had_table in
          let (begins, ends) = lies plan_table (file_part q) inside in
          let in_left : slice_get (map bare (loads_of facts.left)) j ≡ Some (bare q) = subst (λ (l : List SegmentHeader). slice_get l j ≡ Some (bare q)) facts.loads (at-map bare (loads_of r.image.segments) j q at) in
          let (old, at_old, alike) = map-at bare (loads_of facts.left) j (bare q) in_left in
          let offset : old.p_offset ≡ q.p_offset = ap (λ (x : SegmentHeader). x.p_offset) alike in
          let size : old.p_filesz ≡ q.p_filesz = ap (λ (x : SegmentHeader). x.p_filesz) alike in
          let low : old.p_offset ≤ table_offset r moved = omega (arith, begins, offset) in
          let high : table_offset r moved < old.p_offset + old.p_filesz = omega (arith, ends, some, offset, size) in
          elim (pairs-at (λ p q. apart (file_part p) (file_part q) ≡ true) (loads_of facts.left) facts.bytes_apart had.place j p old had.is_there at_old) [
            | inl same ↦ ap bare same ∙ alike
            | inr (inl other) ↦ absurd (apart-meet (file_part p) (file_part old) (table_offset r moved) other had.begins had.ends low high)
            | inr (inr other) ↦ absurd (apart-meet (file_part old) (file_part p) (table_offset r moved) other low high had.begins had.ends)
          ]

      table_found : (q : SegmentHeader) → loaded_over plan_table plan_segments ≡ Some q
          → IsUnder (table_blocks r looked) (range (q.p_vaddr + table_offset r moved - q.p_offset) (length plan_segments * entry))
      table_found q e =
          let test : SegmentHeader → Bool = λ x. lies_in plan_table (file_part x) in
          let found : find test (loads_of r.image.segments) ≡ Some q = sym (plan_loads-find test r moved none_added) ∙ e in
          let (j, at, inside) = find-at test (loads_of r.image.segments) q found in
          let (i, at_plan, _) = find-at test (loads_of plan_segments) q e in
          let some = some_entries plan_segments entry i q (entry-positive r.image.form) at_plan in
          let P : Option SegmentHeader → Type 0 = λ o. IsUnder (block_in_load (table_at_read r) (table_size_with r looked) o) (range (q.p_vaddr + table_offset r moved - q.p_offset) (length plan_segments * entry)) in
          subst P (sym was)
          (under_found plan_table (length plan_segments * entry) (table_at_read r) (table_size_with r looked) q p j (same_segment j q at inside some) start_same entries_fit at inside refl)

    table_under : Each (IsUnder (table_blocks r looked)) (addresses_of plan_table plan_segments)
    table_under = by_load (table_load r) refl (loaded_over plan_table plan_segments) refl
      where
        by_load : (o : Option SegmentHeader) → table_load r ≡ o → (found : Option SegmentHeader) → loaded_over plan_table plan_segments ≡ found
            → Each (IsUnder (table_blocks r looked)) (list_at (λ (p : SegmentHeader). range (p.p_vaddr + table_offset r moved - p.p_offset) (length plan_segments * entry) ∷ []) found)
        by_load o e None f = tt
        by_load None e (Some q) f = absurd (none-some q (sym (none_behind e) ∙ f))
        by_load (Some p) e (Some q) f = (table_found p e q f, tt)

    -- both headers of a file, in the order of their blocks
    pub headers_under : Each (IsUnder (file_header_blocks r)) (addresses_of (range 0 (file_header_size r.image.form)) plan_segments) × Each (IsUnder (table_blocks r looked)) (addresses_of plan_table plan_segments)
    headers_under =
        let P : Form → Type 0 = λ form. Each (IsUnder (file_header_blocks r)) (addresses_of (range 0 (file_header_size form)) plan_segments) in
        (subst P (sym facts.form) file_header_under, table_under)
