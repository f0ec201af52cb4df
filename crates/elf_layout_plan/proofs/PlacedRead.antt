-- What the image that was read meets: where its loaded segments and its sections stand.
use Rattle.std.proofs.Common.{◌≡◌, ◌≤◌, ◌<◌, ◌⊎◌, ℕ, zero, suc, ◌+◌, ◌*◌, Bool, true, false, eqb, List, ◌∷◌, map, length, refl, sym, ap, ◌∙◌, subst, inl, inr, Some, None, Result, Ok, Err, arith, []}
use Rattle.std.specs.Prelude.{◌&&◌, not, ◌==◌, filter, nat_le, nat_lt}
use Rattle.std.specs.List.{list_all, list_any, slice_get, slice_index}
use Rattle.std.proofs.lemmas.Bool.{and_from, and_parts, both_ways, eqb-true, le-leb, leb-true, lt-ltb, not-true, not_from_true, or_cases}
use Rattle.std.proofs.lemmas.Bool.Decides.{nat_tests}
use Rattle.std.proofs.lemmas.Option.{get_or_from_slice_get}
use Rattle.std.proofs.Math.Nat.{mul-le-mul_right}
use Rattle.patch_bytes.specs.declared.number.Wide.{Wide}
use Rattle.patch_bytes.specs.declared.number.Wide.TheVariants.{W32, W64}
use Rattle.elf_format.specs.declared.header.Header.{Header}
use Rattle.elf_format.specs.declared.constants.TheConstants.{PT_PHDR}
use Rattle.elf_format.specs.declared.fault.ElfFault.{ElfFault}
use Rattle.elf_format.specs.declared.range.Range.{Range}
use Rattle.elf_format.specs.declared.records.SegmentHeader.{SegmentHeader}
use Rattle.elf_format.specs.File.{Parts, is_loaded, loads_of}
use Rattle.elf_format.specs.declared.form.Form.{Form}
use Rattle.elf_format.specs.Form.{by_class}
use Rattle.elf_format.specs.Image.{Image, ImageSection, image_of}
use Rattle.elf_format.specs.Placement.{addresses_apart, crosses_file_end, ends_by, file_part, holds, is_stored, is_uninitialized, memory_part, sections_held, something_loaded, stored_apart, stored_clear_of, stored_ranges}
use Rattle.elf_format.specs.Places.{Place, file_range, occupies_file, occupies_memory, place_of, places_of}
use Rattle.elf_format.specs.Ranges.{all_apart, apart, end_of, lies_in, range}
use Rattle.elf_format.specs.Records.{file_header_size, segment_header_size}
use Rattle.elf_format.specs.Rules.{ArePartsOf, MeetsRules, file_of, header_ranges, segment_table_range}
use Rattle.elf_tables.specs.Edited.{ArePicked, AreUnclaimed, IsEditOf, IsEdited, IsReclaimed, IsSameSection}
use Rattle.elf_image_headers.specs.Segments.{loads_end}
use Rattle.elf_image_headers.specs.Spare.{has_place}
use Rattle.elf_tables.specs.ReadImage.{AreSectionsOf, HoldsParts}
use Rattle.elf_tables.proofs.ForCallers.ReadImageLaws.{read_images_hold_parts}
use Rattle.elf_tables.specs.Kept.{KeptSection, image_at_read, kept_from, kept_sections, place_at_read}
use Rattle.elf_layout_plan.specs.Memory.{Resized, has_lost_load, table_at_read, table_load}
use Rattle.elf_layout_plan.specs.Plan.{resized}
use Rattle.elf_layout_plan.proofs.PlacedLists.{Has, MadeOf, Pairs, all-at, any-at, any-from, filter-at, filter-from, find-at, find-none, has_cases, has_here, has_none, map-at, map-from, pairs-map, pairs-unmap, slice_get-at}
use Rattle.elf_layout_plan.proofs.PlacedLoads.{left_or_went, loads_unclaimed, pairs_left, plain, same_loads, same_type, was_there}
use Rattle.elf_layout_plan.proofs.PlacedRanges.{Apart, all_apart-at, lies_in-at}
use Rattle.elf_format.proofs.ForCallers.Lengths.{length-segments}
use Rattle.elf_format.proofs.ForCallers.{apart-tells}

-- ## Sections that are there

pub record IsKeptAt (n : ℕ) (ns : List ℕ) (ss : List ImageSection) (k : KeptSection) : Type 0 where
  pub index : ℕ
  pub position : k.position ≡ n + index
  pub number : slice_get ns index ≡ Some k.number
  pub section : slice_get ss index ≡ Some k.section

pub kept_at : (n : ℕ) (ns : List ℕ) (ss : List ImageSection) (k : KeptSection) → Has k (kept_from n ns ss) → IsKeptAt n ns ss k
kept_at n [] ss k h = absurd (has_none k h)
kept_at n (m ∷ ms) [] k h = absurd (has_none k h)
kept_at n (m ∷ ms) (s ∷ ss) k h = elim (has_cases k (record { position = n; number = m; section = s }) (kept_from (n + 1) ms ss) h) [
  | inl same ↦ record {
    index = zero;
    position = omega (arith, ap (λ (x : KeptSection). x.position) same);
    number = ap (λ (x : KeptSection). Some x.number) same;
    section = ap (λ (x : KeptSection). Some x.section) same;
  }
  | inr later ↦
      let more = kept_at (n + 1) ms ss k later in
      record { index = suc more.index; position = omega (arith, more.position); number = more.number; section = more.section }
]

-- a section as it was read: the one with its number
pub record WasRead (read : Image) (k : KeptSection) : Type 0 where
  pub old : ImageSection
  pub there : slice_get read.sections k.number ≡ Some old
  pub same : k.section ≡ record old { name = k.section.name }

pub was_read : (read image : Image) → ArePicked IsSameSection read.sections image.section_numbers image.sections
    → (k : KeptSection) → Has k (kept_sections image) → WasRead read k
was_read read image picked k here =
    let at = kept_at 0 image.section_numbers image.sections k here in
    let (old, there, renamed) = picked.same at.index k.section at.section in
    let number : slice_index image.section_numbers at.index ≡ k.number = get_or_from_slice_get image.section_numbers at.index k.number 0
    at.number in
    record { old = old; there = ap (λ (i : ℕ). slice_get read.sections i) (sym number) ∙ there; same = renamed.1 }

-- ## Places that were read

-- the place of a section is one that was read
place_there : (p : Parts) (sections : List ImageSection) → AreSectionsOf p sections → (i : ℕ) (x : ImageSection) → slice_get sections i ≡ Some x
    → Has (place_at_read x) (places_of p.sections)
place_there p sections are i x at =
    let (s, there, is) = are.each i x at in
    subst (λ (y : Place). Has y (places_of p.sections)) (sym (ap place_at_read is.fields))
    (map-from place_of p.sections s (slice_get-at p.sections i s there))

-- the image that was read
pub at_read : (o : Result Image ElfFault) (read image : Image) → o ≡ Ok read → (elim o [ Ok x ↦ x | Err _ ↦ image ]) ≡ read
at_read o read image h = ap (λ (x : Result Image ElfFault). elim x as (λ _. Image) [ Ok y ↦ y | Err _ ↦ image ]) h

-- ## What is known of them

-- the loaded segment that had the program header table, as the image has it
pub record TableIn (r : Resized) (q : SegmentHeader) : Type 0 where
  pub load : SegmentHeader
  pub here : Has load (loads_of r.image.segments)
  pub same : plain load ≡ plain q
  pub begins : load.p_offset ≤ r.read.header.e_phoff
  pub ends : r.read.header.e_phoff + length r.read.segments * segment_header_size r.read.form ≤ load.p_offset + load.p_filesz
  pub filled : 0 < length r.read.segments

-- A stored section that didn't lose its loaded segment: held by that, and behind the file header.
pub record WasHeld (r : Resized) (s : ImageSection) : Type 0 where
  pub load : SegmentHeader
  pub here : Has load (loads_of r.image.segments)
  pub holds_it : holds load (place_at_read s) ≡ true
  pub behind_header : file_header_size r.image.form ≤ s.sh_offset

-- What the loaded segments and the sections of an edited image meet, since they were read.
pub record ReadsPlaced (r : Resized) : Type 0 where
  pub form : r.image.form ≡ r.read.form
  pub table_offset : r.image.header.e_phoff ≡ r.read.header.e_phoff
  pub fit : (p : SegmentHeader) → Has p (loads_of r.image.segments) → p.p_filesz ≤ p.p_memsz
  pub memory_apart : Pairs (λ p q. Apart (memory_part p) (memory_part q)) (loads_of r.image.segments)
  pub file_apart : Pairs (λ p q. Apart (file_part p) (file_part q)) (loads_of r.image.segments)
  pub in_file : (p : SegmentHeader) → Has p (loads_of r.image.segments) → end_of (file_part p) ≤ length r.image.source
  pub held : (k : KeptSection) → Has k (kept_sections r.image) → is_stored (place_at_read k.section) ≡ true
      → has_lost_load r.image k.section ≡ false → WasHeld r k.section
  pub something : (k : KeptSection) → Has k (kept_sections r.image) → occupies_memory (place_at_read k.section) ≡ true
      → list_any is_loaded r.image.segments ≡ true
  pub clear : (k : KeptSection) → Has k (kept_sections r.image) → is_uninitialized (place_at_read k.section) ≡ true
      → (p : SegmentHeader) → Has p (loads_of r.image.segments) → crosses_file_end p (place_at_read k.section) ≡ false
  pub table_in : (q : SegmentHeader) → table_load r ≡ Some q → TableIn r q
  pub table_there : list_any (λ p. p.p_type == PT_PHDR) r.image.segments ≡ true → table_load r ≡ None → ⊥

-- ## What the rules say

pub header_filled : (form : Form) → 0 < file_header_size form
header_filled form = by_wide form.wide
  where
    by_wide : (w : Wide) → 0 < by_class w 52 64
    by_wide W32 = omega arith
    by_wide W64 = omega arith

pub entry_filled : (form : Form) → 0 < segment_header_size form
entry_filled form = by_wide form.wide
  where
    by_wide : (w : Wide) → 0 < by_class w 32 56
    by_wide W32 = omega arith
    by_wide W64 = omega arith

has-length : {A : Type 0} (x : A) (xs : List A) → Has x xs → 0 < length xs
has-length x [] h = absurd (has_none x h)
has-length x (y ∷ ys) h = omega arith

-- what doesn't look at the alignment
parts_plain : (f : SegmentHeader → Range) → ((q : SegmentHeader) → f (plain q) ≡ f q) → (ps : List SegmentHeader) → map f (map plain ps) ≡ map f ps
parts_plain f same [] = refl
parts_plain f same (p ∷ ps) = ap (λ (x : Range). x ∷ map f (map plain ps)) (same p) ∙ ap (λ (xs : List Range). f p ∷ xs) (parts_plain f same ps)

-- a filled range that is apart from the start of the file is behind it
behind_start : (size : ℕ) (s : Range) → 0 < size → 0 < s.size → apart (range 0 size) s ≡ true → size ≤ s.start
behind_start size s filled s_filled h = elim (apart-tells (range 0 size) s h) [
  | inl e ↦ omega (arith, e)
  | inr (inl e) ↦ omega (arith, e)
  | inr (inr (inl e)) ↦ omega (arith, e)
  | inr (inr (inr e)) ↦ omega (arith, e)
]

stored_filled : (s : Place) → is_stored s ≡ true → 0 < s.sh_size
stored_filled s h = positive s.sh_size (and_parts (occupies_memory s && occupies_file s) (not (eqb s.sh_size 0)) h).1
  where
    positive : (n : ℕ) → not (eqb n 0) ≡ true → 0 < n
    positive n e = grind (arith, nat_tests)

module _ (r : Resized) (edit : IsEditOf r.read r.image) (p : Parts) (parts : ArePartsOf r.image.source p) (rules : MeetsRules p)
    (holding : HoldsParts p r.read) where
  -- what is left of those that were read
  abbrev left : List SegmentHeader
  left = edit.segments.unclaimed

  abbrev table : ℕ
  table = r.read.header.e_phoff

  abbrev end : ℕ
  end = loads_end r.image.segments

  are_left : AreUnclaimed table end (loads_of p.segments) (loads_of left)
  are_left = subst (λ (ps : List SegmentHeader). AreUnclaimed table end (loads_of ps) (loads_of left)) holding.segments
      (loads_unclaimed table end r.read.segments left edit.segments.are_unclaimed)

  loads_same : map plain (loads_of r.image.segments) ≡ map plain (loads_of left)
  loads_same = same_loads table r.image.page_size r.read.segments r.image.segments edit.segments

  -- a loaded segment of the image, as it was read
  as_read : (q : SegmentHeader) → Has q (loads_of r.image.segments) → MadeOf plain (loads_of p.segments) (plain q)
  as_read q here =
      let m = map-at plain (loads_of left) (plain q)
      (subst (λ (l : List SegmentHeader). Has (plain q) l) loads_same (map-from plain (loads_of r.image.segments) q here)) in
      record { source = m.source; here = was_there table end (loads_of p.segments) (loads_of left) are_left m.source m.here; made = m.made }

  -- one that is left, as the image has it
  left_now : (q : SegmentHeader) → Has q (loads_of left) → MadeOf plain (loads_of r.image.segments) (plain q)
  left_now q here = map-at plain (loads_of r.image.segments) (plain q)
      (subst (λ (l : List SegmentHeader). Has (plain q) l) (sym loads_same) (map-from plain (loads_of left) q here))

  -- one that was read, as the image has it, where it didn't go
  as_now : (q : SegmentHeader) → Has q (loads_of p.segments) → MadeOf plain (loads_of r.image.segments) (plain q) ⊎ IsReclaimed table end q
  as_now q here = elim (left_or_went table end (loads_of p.segments) (loads_of left) are_left q here) [
    | inl stays ↦ inl (left_now q stays)
    | inr went ↦ inr went
  ]

  fits : (q : SegmentHeader) → Has q (loads_of r.image.segments) → q.p_filesz ≤ q.p_memsz
  fits q here =
      let m = as_read q here in
      let t : m.source.p_filesz ≤ m.source.p_memsz =
      leb-true m.source.p_filesz m.source.p_memsz (all-at (λ x. nat_le x.p_filesz x.p_memsz) (loads_of p.segments) m.source rules.fit m.here) in
      omega (arith, t, ap (λ (x : SegmentHeader). x.p_filesz) m.made, ap (λ (x : SegmentHeader). x.p_memsz) m.made)

  same_parts : (f : SegmentHeader → Range) → ((q : SegmentHeader) → f (plain q) ≡ f q)
      → map f (loads_of r.image.segments) ≡ map f (loads_of left)
  same_parts f same =
      sym (parts_plain f same (loads_of r.image.segments)) ∙ ap (map f) loads_same ∙ parts_plain f same (loads_of left)

  parts_apart : (f : SegmentHeader → Range) → ((q : SegmentHeader) → f (plain q) ≡ f q) → all_apart (map f (loads_of p.segments)) ≡ true
      → Pairs (λ x y. Apart (f x) (f y)) (loads_of r.image.segments)
  parts_apart f same h =
      let read : Pairs (λ x y. Apart (f x) (f y)) (loads_of p.segments) = pairs-unmap f Apart (loads_of p.segments)
      (all_apart-at (map f (loads_of p.segments)) h) in
      let stay : Pairs (λ x y. Apart (f x) (f y)) (loads_of left) = pairs_left table end (λ x y. Apart (f x) (f y)) (loads_of p.segments)
      (loads_of left) are_left read in
      pairs-unmap f Apart (loads_of r.image.segments)
      (subst (λ (l : List Range). Pairs Apart l) (sym (same_parts f same)) (pairs-map f Apart (loads_of left) stay))

  lie_in_file : (q : SegmentHeader) → Has q (loads_of r.image.segments) → end_of (file_part q) ≤ length r.image.source
  lie_in_file q here =
      let m = as_read q here in
      let all = (and_parts (list_all (λ s. ends_by (length (file_of p)) (file_range s)) (filter occupies_file (places_of p.sections)))
      (list_all (λ x. ends_by (length (file_of p)) (file_part x)) (loads_of p.segments)) rules.in_file).1 in
      let t : m.source.p_offset + m.source.p_filesz ≤ length (file_of p) =
      leb-true (end_of (file_part m.source)) (length (file_of p))
      (all-at (λ x. ends_by (length (file_of p)) (file_part x)) (loads_of p.segments) m.source all m.here) in
      omega (
        arith,
        t,
        ap (λ (x : SegmentHeader). x.p_filesz) m.made,
        ap (λ (x : SegmentHeader). x.p_offset) m.made,
        ap (λ (l : List ℕ). length l) parts.same_file,
      )

  -- the place of a section was read
  place_read : (k : KeptSection) → Has k (kept_sections r.image) → Has (place_at_read k.section) (places_of p.sections)
  place_read k here =
      let was = was_read r.read r.image edit.sections k here in
      subst (λ (x : Place). Has x (places_of p.sections)) (sym (ap place_at_read was.same))
      (place_there p r.read.sections holding.sections k.number was.old was.there)

  loaded_rule : (sections_held p.segments (places_of p.sections) ≡ true) × (something_loaded p.segments (places_of p.sections) ≡ true)
      × (stored_clear_of (header_ranges p) (places_of p.sections) ≡ true)
  loaded_rule =
      let outer = and_parts (sections_held p.segments (places_of p.sections) && something_loaded p.segments (places_of p.sections))
      (stored_apart (header_ranges p) (places_of p.sections)) rules.loaded in
      let inner = and_parts (sections_held p.segments (places_of p.sections)) (something_loaded p.segments (places_of p.sections)) outer.0 in
      let last = and_parts (all_apart (stored_ranges (places_of p.sections))) (stored_clear_of (header_ranges p) (places_of p.sections)) outer.1 in
      (inner.0, inner.1, last.1)

  -- where the loaded segment that held a section went, it has lost that
  loses_load : (k : KeptSection) (q : SegmentHeader) → is_stored (place_at_read k.section) ≡ true → holds q (place_at_read k.section) ≡ true
      → IsReclaimed table end q → has_lost_load r.image k.section ≡ true
  loses_load k q stored held went =
      let place : Place = place_at_read k.section in
      let both = and_parts (lies_in (file_range place) (file_part q)) (eqb (place.sh_addr + q.p_offset) (q.p_vaddr + place.sh_offset)) held in
      let begins : q.p_offset ≤ k.section.sh_offset = (lies_in-at (file_range place) (file_part q) both.0).0 in
      let distance : k.section.sh_addr + q.p_offset ≡ q.p_vaddr + k.section.sh_offset =
      eqb-true (place.sh_addr + q.p_offset) (q.p_vaddr + place.sh_offset) both.1 in
      let behind : end ≤ q.p_vaddr = went.behind in
      and_from (is_stored place) (nat_le end k.section.sh_addr) stored
      (le-leb end k.section.sh_addr (omega (arith, begins, distance, behind)))

  was_held : (k : KeptSection) → Has k (kept_sections r.image) → is_stored (place_at_read k.section) ≡ true
      → has_lost_load r.image k.section ≡ false → WasHeld r k.section
  was_held k here stored not_lost =
      let place : Place = place_at_read k.section in
      let found : Has place (filter is_stored (places_of p.sections)) = filter-from is_stored (places_of p.sections) place
      (place_read k here) stored in
      let both = and_parts (list_any (λ x. holds x place) (loads_of p.segments)) (not (eqb place.sh_offset 0))
      (all-at (λ s. list_any (λ x. holds x s) (loads_of p.segments) && not (eqb s.sh_offset 0)) (filter is_stored (places_of p.sections))
      place loaded_rule.0 found) in
      let holder = any-at (λ x. holds x place) (loads_of p.segments) both.0 in
      let start : Range = range 0 (file_header_size p.opened.form) in
      let clear = all-at (λ h. list_all (λ x. apart h x) (stored_ranges (places_of p.sections))) (header_ranges p) start loaded_rule.2
      (has_here start (segment_table_range p ∷ [])) in
      let apart_here = all-at (λ x. apart start x) (stored_ranges (places_of p.sections)) (file_range place) clear
      (map-from file_range (filter is_stored (places_of p.sections)) place found) in
      let behind : file_header_size p.opened.form ≤ place.sh_offset =
      behind_start (file_header_size p.opened.form) (file_range place) (header_filled p.opened.form) (stored_filled place stored) apart_here in
      elim (as_now holder.element holder.here) [
        | inl now ↦ record {
          load = now.source;
          here = now.here;
          holds_it = subst (λ (x : SegmentHeader). holds x place ≡ true) (sym now.made) holder.passes;
          behind_header = subst (λ (f : Form). file_header_size f ≤ place.sh_offset) (sym (edit.form ∙ holding.form)) behind;
        }
        | inr went ↦ absurd (both_ways (has_lost_load r.image k.section) not_lost (loses_load k holder.element stored holder.passes went))
      ]

  is_something : (k : KeptSection) → Has k (kept_sections r.image) → occupies_memory (place_at_read k.section) ≡ true
      → list_any is_loaded r.image.segments ≡ true
  is_something k here takes =
      let some : list_any occupies_memory (places_of p.sections) ≡ true = any-from occupies_memory (places_of p.sections)
      (place_at_read k.section) (place_read k here) takes in
      elim (or_cases (not (list_any occupies_memory (places_of p.sections))) (list_any is_loaded p.segments) loaded_rule.1) [
        | inl none ↦ absurd (both_ways (not (list_any occupies_memory (places_of p.sections)))
            (not_from_true (list_any occupies_memory (places_of p.sections)) some) none)
        | inr any ↦
            let found = any-at is_loaded left (edit.segments.loaded (ap (list_any is_loaded) holding.segments ∙ any)) in
            let now = left_now found.element (filter-from is_loaded left found.element found.here found.passes) in
            let back = filter-at is_loaded r.image.segments now.source now.here in
            any-from is_loaded r.image.segments now.source back.0 back.1
      ]

  is_clear : (k : KeptSection) → Has k (kept_sections r.image) → is_uninitialized (place_at_read k.section) ≡ true
      → (q : SegmentHeader) → Has q (loads_of r.image.segments) → crosses_file_end q (place_at_read k.section) ≡ false
  is_clear k here bare q q_here =
      let place : Place = place_at_read k.section in
      let m = as_read q q_here in
      let found : Has place (filter is_uninitialized (places_of p.sections)) = filter-from is_uninitialized (places_of p.sections) place
      (place_read k here) bare in
      let all = all-at (λ s. list_all (λ x. not (crosses_file_end x s)) (loads_of p.segments))
      (filter is_uninitialized (places_of p.sections)) place rules.clear found in
      let old : crosses_file_end m.source place ≡ false = not-true (crosses_file_end m.source place)
      (all-at (λ x. not (crosses_file_end x place)) (loads_of p.segments) m.source all m.here) in
      subst (λ (x : SegmentHeader). crosses_file_end x place ≡ false) m.made old

  -- one with the table in its file part didn't go
  keeps_table : (q : SegmentHeader) → 0 < length r.read.segments → q.p_offset ≤ table
      → table + length r.read.segments * segment_header_size r.read.form ≤ q.p_offset + q.p_filesz → IsReclaimed table end q → ⊥
  keeps_table q filled begins ends went =
      let unit : ℕ = segment_header_size r.read.form in
      let unit_filled : 0 < unit = entry_filled r.read.form in
      let one : 1 * unit ≤ length r.read.segments * unit = mul-le-mul_right unit filled in
      let inside : table < q.p_offset + q.p_filesz = omega (arith, unit_filled, one, ends) in
      both_ways (has_place table q) went.no_table
      (and_from (nat_le q.p_offset table) (nat_lt table (q.p_offset + q.p_filesz)) (le-leb q.p_offset table begins)
      (lt-ltb table (q.p_offset + q.p_filesz) inside))

  table_is_in : (q : SegmentHeader) → table_load r ≡ Some q → TableIn r q
  table_is_in q h =
      let found = find-at (λ x. lies_in (table_at_read r) (file_part x)) (loads_of r.read.segments) q h in
      let lies = lies_in-at (table_at_read r) (file_part q) found.1 in
      let filled = has-length q r.read.segments (filter-at is_loaded r.read.segments q found.0).0 in
      elim (as_now q (subst (λ (l : List SegmentHeader). Has q (loads_of l)) holding.segments found.0)) [
        | inl now ↦
            let offset : now.source.p_offset ≡ q.p_offset = ap (λ (x : SegmentHeader). x.p_offset) now.made in
            let size : now.source.p_filesz ≡ q.p_filesz = ap (λ (x : SegmentHeader). x.p_filesz) now.made in
            record {
              load = now.source;
              here = now.here;
              same = now.made;
              begins = omega (arith, lies.0, offset);
              ends = omega (arith, lies.1, offset, size);
              filled = filled;
            }
        | inr went ↦ absurd (keeps_table q filled lies.0 lies.1 went)
      ]

  table_same : segment_table_range p ≡ table_at_read r
  table_same =
      ap (λ (n : ℕ). range p.opened.header.e_phoff (n * segment_header_size p.opened.form))
      (sym (length-segments p.opened p.segments parts.segments) ∙ sym (ap length holding.segments))
      ∙ ap (λ (f : Form). range p.opened.header.e_phoff (length r.read.segments * segment_header_size f)) (sym holding.form)
      ∙ ap (λ (h : Header). range h.e_phoff (length r.read.segments * segment_header_size r.read.form)) (sym holding.header)

  table_is_there : list_any (λ x. x.p_type == PT_PHDR) r.image.segments ≡ true → table_load r ≡ None → ⊥
  table_is_there any none =
      let was : list_any (λ x. x.p_type == PT_PHDR) p.segments ≡ true =
      ap (list_any (λ x. x.p_type == PT_PHDR)) (sym holding.segments)
      ∙ same_type PT_PHDR table r.image.page_size r.read.segments r.image.segments refl refl edit.segments any in
      let inside : SegmentHeader → Bool = λ x. lies_in (segment_table_range p) (file_part x) in
      elim (or_cases (not (list_any (λ x. x.p_type == PT_PHDR) p.segments)) (list_any inside (loads_of p.segments)) rules.header_table) [
        | inl none_was ↦ both_ways (not (list_any (λ x. x.p_type == PT_PHDR) p.segments))
            (not_from_true (list_any (λ x. x.p_type == PT_PHDR) p.segments) was) none_was
        | inr some ↦
            let found = any-at inside (loads_of p.segments) some in
            let fails : lies_in (table_at_read r) (file_part found.element) ≡ false =
            find-none (λ x. lies_in (table_at_read r) (file_part x)) (loads_of r.read.segments) none found.element
            (subst (λ (l : List SegmentHeader). Has found.element (loads_of l)) (sym holding.segments) found.here) in
            both_ways (lies_in (table_at_read r) (file_part found.element)) fails
            (ap (λ (t : Range). lies_in t (file_part found.element)) (sym table_same) ∙ found.passes)
      ]

  placed : ReadsPlaced r
  placed = record {
    form = edit.form;
    table_offset = ap (λ (h : Header). h.e_phoff) edit.header;
    fit = fits;
    memory_apart = parts_apart memory_part (λ q. refl)
        (and_parts (addresses_apart p.segments) (all_apart (map file_part (loads_of p.segments))) rules.segments).0;
    file_apart = parts_apart file_part (λ q. refl) (and_parts (addresses_apart p.segments) (all_apart (map file_part (loads_of p.segments)))
        rules.segments).1;
    in_file = lie_in_file;
    held = was_held;
    something = is_something;
    clear = is_clear;
    table_in = table_is_in;
    table_there = table_is_there;
  }

-- An edited image was read from a file that meets the rules.
pub reads_placed : (image : Image) → IsEdited image → ReadsPlaced (resized image)
reads_placed image e =
    let same : image_at_read image ≡ e.read = at_read (image_of image.source) e.read image e.is_read in
    let (p, _, parts, rules, holding) = read_images_hold_parts image.source e.read e.is_read in
    placed (resized image) (subst (λ (x : Image). IsEditOf x image) (sym same) e.is_edit) p parts rules
    (subst (λ (x : Image). HoldsParts p x) (sym same) holding)
