-- What is known of an edited image follows from the rules that its source was accepted by.
use Rattle.std.proofs.Common.{◌≡◌, ℕ, zero, suc, ◌+◌, ◌<◌, ◌≤◌, Bool, true, false, not, cond, ◌&&◌, ◌||◌, ◌⊎◌, List, ◌∷◌, ◌++◌, map, length, refl, sym, ap, ◌∙◌, subst, inl, inr, arith, Option, Some, None, []}
use Rattle.std.specs.Prelude.{◌==◌, Result, Ok, Err, filter, find, nat_le, slice_index, if◌then◌else◌}
use Rattle.std.specs.List.{list_all, list_any, slice_get}
use Rattle.std.specs.Option.{option_map, option_to_list}
use Rattle.std.proofs.lemmas.Bool.{and_from, and_parts, eqb-true, false≢true, le-leb, leb-true, ne_eqb}
use Rattle.std.proofs.lemmas.List.{append-nil}
use Rattle.std.proofs.lemmas.List.Elements.{filter-append}
use Rattle.std.proofs.lemmas.Option.{get_or_from_slice_get, none-some, same_Some, slice_get_within}
use Rattle.patch_bytes.specs.Memory.{◌>>=◌}
use Rattle.patch_bytes.proofs.MemoryLaws.{bind_some}
use Rattle.elf_format.specs.declared.constants.TheConstants.{PT_INTERP, PT_LOAD, SHT_NOBITS, SHT_NOTE, SHT_PROGBITS}
use Rattle.elf_format.specs.declared.fault.ElfFault.{ElfFault}
use Rattle.elf_format.specs.declared.header.Header.{Header}
use Rattle.elf_format.specs.declared.records.SectionHeader.{SectionHeader}
use Rattle.elf_format.specs.declared.records.SegmentHeader.{SegmentHeader}
use Rattle.elf_format.specs.File.{Parts, is_loaded, loads_of, segment_of_type}
use Rattle.elf_format.specs.Image.{Image, ImageSection, counted, image_of}
use Rattle.elf_format.specs.Options.{is_some_and}
use Rattle.elf_format.specs.Placement.{addresses_apart, ends_by, file_part, holds, is_stored, sections_held, shows_at, something_loaded, stored_apart, stored_clear_of, stored_ranges}
use Rattle.elf_format.specs.Places.{Place, file_range, occupies_file, occupies_memory, place_of, places_of}
use Rattle.elf_format.specs.Ranges.{all_apart, apart, end_of}
use Rattle.elf_format.specs.Rules.{MeetsRules, file_of, header_ranges}
use Rattle.elf_tables.specs.Edited.{AreKept, AreSegments, AreUnclaimed, CanGo, IsEditOf, IsEdited, IsReclaimed, kept_segment}
use Rattle.elf_tables.specs.ReadImage.{HoldsParts}
use Rattle.elf_image_headers.specs.Segments.{added_stack, loads_end}
use Rattle.elf_tables.proofs.ForCallers.ReadImageLaws.{read_images_hold_parts}
use Rattle.elf_layout_plan.specs.Anchors.{is_loaded_section}
use Rattle.elf_tables.specs.Kept.{KeptSection, interpreter_number, kept_from, is_numbered, kept_sections, place_at_read, stands_as_interpreter}
use Rattle.elf_layout_plan.specs.Memory.{Resized, has_lost_load}
use Rattle.elf_layout_plan.specs.Plan.{resized}
use Rattle.elf_layout_plan.specs.Sizes.{interpreter_size, new_size, new_sizes, table_size}
use Rattle.elf_layout_plan.proofs.ApartBlocks.{all_apart_pairs}
use Rattle.elf_layout_plan.proofs.ApartFacts.{AreFacts, IsOriginal, bare, bytes_of, was_stored}
use Rattle.elf_layout_plan.proofs.ApartLeft.{any_left, each_left, pairs_left}
use Rattle.elf_layout_plan.proofs.ApartLists.{Each, Pairs, all-at, any-from, at-map, each-at, each-from, each-more, each-unfilter, each-unmap, find-at, pairs-from, pairs-less, pairs-unfilter, pairs-unmap, same_at}
use Rattle.elf_layout_plan.proofs.ApartSections.{kept-at, sized_from-map}
use Rattle.elf_layout_plan.proofs.ApartStays.{shows}
use Rattle.elf_format.proofs.ForCallers.Lengths.{counted_at, slice_get-counted}

-- ## Loaded segments are kept

gone_isnt_loaded : (p : SegmentHeader) → CanGo p → is_loaded p ≡ false
gone_isnt_loaded p go = ne_eqb p.p_type PT_LOAD go.0

loads-kept : (size : Option ℕ) (olds ps : List SegmentHeader) → AreKept size olds ps → map bare (loads_of ps) ≡ map bare (loads_of olds)
loads-kept size [] [] h = refl
loads-kept size [] (p ∷ ps) h = absurd h
loads-kept size (old ∷ olds) [] h = loads-kept size olds [] h.1 ∙ ap (λ b. map bare (cond b (old ∷ loads_of olds) (loads_of olds))) (sym (gone_isnt_loaded old h.0))
loads-kept size (old ∷ olds) (p ∷ ps) h = elim h [
  | inl same ↦ here same.0 (loads-kept size olds ps same.1)
  | inr gone ↦ loads-kept size olds (p ∷ ps) gone.1 ∙ ap (λ b. map bare (cond b (old ∷ loads_of olds) (loads_of olds))) (sym (gone_isnt_loaded old gone.0))
]
  where
    here : p ≡ kept_segment size p.p_flags old → map bare (loads_of ps) ≡ map bare (loads_of olds) → map bare (loads_of (p ∷ ps)) ≡ map bare (loads_of (old ∷ olds))
    here same rest =
        ap (λ b. map bare (cond b (p ∷ loads_of ps) (loads_of ps))) (ap is_loaded same) ∙ by_test (is_loaded old)
      where
        by_test : (b : Bool) → map bare (cond b (p ∷ loads_of ps) (loads_of ps)) ≡ map bare (cond b (old ∷ loads_of olds) (loads_of olds))
        by_test true = ap (λ q. q ∷ map bare (loads_of ps)) (ap bare same) ∙ ap (λ qs. bare old ∷ qs) rest
        by_test false = rest

pub loads-edited : (table : ℕ) (size : Option ℕ) (read now : List SegmentHeader) (h : AreSegments table size read now) → map bare (loads_of now) ≡ map bare (loads_of h.unclaimed)
loads-edited table size read now h =
    ap (λ ps. map bare (loads_of ps)) h.are_all
    ∙ ap (map bare) (filter-append is_loaded h.kept (option_to_list (option_map added_stack h.added)) ∙ ap (λ ps. loads_of h.kept ++ ps) (no_stack h.added) ∙ append-nil (loads_of h.kept))
    ∙ loads-kept size h.unclaimed h.kept h.are_kept
  where
    no_stack : (o : Option ℕ) → loads_of (option_to_list (option_map added_stack o)) ≡ []
    no_stack None = refl
    no_stack (Some flags) = refl

-- ## Numbers at read

kept-there : (p : ℕ) (ns : List ℕ) (ss : List ImageSection) (i n : ℕ) (s : ImageSection) → slice_get ns i ≡ Some n → slice_get ss i ≡ Some s
    → (k : KeptSection) × (slice_get (kept_from p ns ss) i ≡ Some k) × (k.number ≡ n) × (k.section ≡ s)
kept-there p [] ss i n s at_n at_s = absurd (none-some n at_n)
kept-there p (m ∷ ns) [] i n s at_n at_s = absurd (none-some s at_s)
kept-there p (m ∷ ns) (t ∷ ss) zero n s at_n at_s = (record { position = p; number = m; section = t }, refl, same_Some m n at_n, same_Some t s at_s)
kept-there p (m ∷ ns) (t ∷ ss) (suc i) n s at_n at_s = kept-there (p + 1) ns ss i n s at_n at_s

-- a table of notes or of nothing keeps its size
size-nobits : (read image : Image) (k : KeptSection) → k.section.sh_type ≡ SHT_NOBITS → table_size read image k ≡ k.section.sh_size
size-nobits read image k e = rw e refl

size-note : (read image : Image) (k : KeptSection) → k.section.sh_type ≡ SHT_NOTE → table_size read image k ≡ k.section.sh_size
size-note read image k e = rw e refl

module _ (image read : Image) (edit : IsEditOf read image) (p : Parts) (rules : MeetsRules p) (has : HoldsParts p read) (source : file_of p ≡ image.source) where
  r : Resized
  r = record { read = read; image = image; sizes = new_sizes read image }

  -- what is left of the program headers
  abbrev left : List SegmentHeader
  left = edit.segments.unclaimed

  are_left : AreUnclaimed read.header.e_phoff (loads_end image.segments) read.segments left
  are_left = edit.segments.are_unclaimed

  -- a kept section, as it was read, and its section header
  pub record IsFrom (i : ℕ) (k : KeptSection) : Type 0 where
    pub old : ImageSection
    pub at_read : slice_get read.sections k.number ≡ Some old
    pub numbered : slice_index image.section_numbers i ≡ k.number
    pub same : k.section ≡ record old { name = k.section.name }
    pub header : SectionHeader
    pub at_header : slice_get p.sections k.number ≡ Some header
    pub place : place_at_read k.section ≡ place_of header

  pub is_from : (i : ℕ) (k : KeptSection) → slice_get (kept_sections image) i ≡ Some k → IsFrom i k
  is_from i k at =
      let (_, at_number, at_section) = kept-at 0 image.section_numbers image.sections i k at in
      let number : slice_index image.section_numbers i ≡ k.number = get_or_from_slice_get image.section_numbers i k.number 0 at_number in
      let (old, at_old, (_, same)) = edit.sections.same i k.section at_section in
      let at_read : slice_get read.sections k.number ≡ Some old = subst (λ (n : ℕ). slice_get read.sections n ≡ Some old) number at_old in
      let (header, at_header, is) = has.sections.each k.number old at_read in
      record {
        old = old;
        at_read = at_read;
        numbered = number;
        same = same;
        header = header;
        at_header = at_header;
        place = ap place_at_read same ∙ ap place_at_read is.fields;
      }

  -- ## Rules on places, of kept sections

  loaded_parts : (sections_held p.segments (places_of p.sections) ≡ true) × (something_loaded p.segments (places_of p.sections) ≡ true) × (stored_apart (header_ranges p) (places_of p.sections) ≡ true)
  loaded_parts =
      let outer = and_parts (sections_held p.segments (places_of p.sections) && something_loaded p.segments (places_of p.sections)) (stored_apart (header_ranges p) (places_of p.sections)) rules.loaded in
      let inner = and_parts (sections_held p.segments (places_of p.sections)) (something_loaded p.segments (places_of p.sections)) outer.0 in
      (inner.0, inner.1, outer.1)

  read_held : Each (λ k. was_stored k ≡ true → list_any (λ q. shows_at q (bytes_of k) k.section.sh_addr) (loads_of read.segments) ≡ true) (kept_sections image)
  read_held = each-from (λ k. was_stored k ≡ true → list_any (λ q. shows_at q (bytes_of k) k.section.sh_addr) (loads_of read.segments) ≡ true) (kept_sections image) (λ i k at.
      let from = is_from i k at in
      let test : Place → Bool = λ s. list_any (λ q. holds q s) (loads_of p.segments) && not (s.sh_offset == 0) in
      let Held : Place → Type 0 = λ s. is_stored s ≡ true → test s ≡ true in
      let each : Each Held (places_of p.sections) = each-unfilter (λ s. test s ≡ true) is_stored (places_of p.sections) (all-at test (filter is_stored (places_of p.sections)) loaded_parts.0) in
      let here : Held (place_of from.header) = each-at (λ s. Held (place_of s)) p.sections (each-unmap Held place_of p.sections each) k.number from.header from.at_header in
      let mine : Held (place_at_read k.section) = subst Held (sym from.place) here in
      λ stored.
      subst (λ (l : List SegmentHeader). list_any (λ q. shows_at q (bytes_of k) k.section.sh_addr) (loads_of l) ≡ true) (sym has.segments)
      (and_parts (list_any (λ q. holds q (place_at_read k.section)) (loads_of p.segments)) (not (k.section.sh_offset == 0)) (mine stored)).0)

  -- a section that went with its segment has lost it
  held : Each (λ k. was_stored k ≡ true → has_lost_load image k.section ≡ false → list_any (λ q. shows_at q (bytes_of k) k.section.sh_addr) (loads_of left) ≡ true) (kept_sections image)
  held = each-more (λ k. was_stored k ≡ true → list_any (λ q. shows_at q (bytes_of k) k.section.sh_addr) (loads_of read.segments) ≡ true)
      (λ k. was_stored k ≡ true → has_lost_load image k.section ≡ false → list_any (λ q. shows_at q (bytes_of k) k.section.sh_addr) (loads_of left) ≡ true)
      (λ k was stored there.
      any_left read.header.e_phoff (loads_end image.segments) (λ q. shows_at q (bytes_of k) k.section.sh_addr)
      (λ q went. shows_none k q stored there went (shows_at q (bytes_of k) k.section.sh_addr) refl) read.segments left are_left ∙ was stored) (kept_sections image) read_held
    where
      shows_none : (k : KeptSection) (q : SegmentHeader) → was_stored k ≡ true → has_lost_load image k.section ≡ false
          → IsReclaimed read.header.e_phoff (loads_end image.segments) q → (b : Bool) → shows_at q (bytes_of k) k.section.sh_addr ≡ b → b ≡ false
      shows_none k q stored there went false e = refl
      shows_none k q stored there went true e =
          let (begins, ends, distance) = shows q k.section.sh_offset k.section.sh_size k.section.sh_addr e in
          let behind : loads_end image.segments ≤ q.p_vaddr = went.behind in
          let far : nat_le (loads_end image.segments) k.section.sh_addr ≡ true = le-leb (loads_end image.segments) k.section.sh_addr (omega (arith, begins, distance, behind)) in
          absurd (false≢true (sym there ∙ and_from (was_stored k) (nat_le (loads_end image.segments) k.section.sh_addr) stored far))

  read_something : Each (λ k. is_loaded_section k.section ≡ true → list_any is_loaded read.segments ≡ true) (kept_sections image)
  read_something = each-from (λ k. is_loaded_section k.section ≡ true → list_any is_loaded read.segments ≡ true) (kept_sections image) (λ i k at takes.
      let from = is_from i k at in
      let in_places : slice_get (places_of p.sections) k.number ≡ Some (place_of from.header) = at-map place_of p.sections k.number from.header from.at_header in
      let some : list_any occupies_memory (places_of p.sections) ≡ true = any-from occupies_memory (places_of p.sections) k.number (place_of from.header) in_places (ap occupies_memory (sym from.place) ∙ takes) in
      subst (λ (l : List SegmentHeader). list_any is_loaded l ≡ true) (sym has.segments) (then_so (list_any occupies_memory (places_of p.sections)) (list_any is_loaded p.segments) some loaded_parts.1))
    where
      then_so : (a b : Bool) → a ≡ true → (not a || b) ≡ true → b ≡ true
      then_so true b e h = h
      then_so false b e h = absurd (false≢true e)

  something : Each (λ k. is_loaded_section k.section ≡ true → list_any is_loaded left ≡ true) (kept_sections image)
  something = each-more (λ k. is_loaded_section k.section ≡ true → list_any is_loaded read.segments ≡ true) (λ k. is_loaded_section k.section ≡ true → list_any is_loaded left ≡ true)
      (λ k was takes. edit.segments.loaded (was takes)) (kept_sections image) read_something

  -- two sections of the file that are stored share no byte
  headers_apart : (i j : ℕ) (h l : SectionHeader) → i < j → slice_get p.sections i ≡ Some h → slice_get p.sections j ≡ Some l → is_stored (place_of h) ≡ true → is_stored (place_of l) ≡ true
      → apart (file_range (place_of h)) (file_range (place_of l)) ≡ true
  headers_apart i j h l less at_h at_l =
      let all = (and_parts (all_apart (stored_ranges (places_of p.sections))) (stored_clear_of (header_ranges p) (places_of p.sections)) loaded_parts.2).0 in
      let Apart : Place → Place → Type 0 = λ s t. apart (file_range s) (file_range t) ≡ true in
      let pairs : Pairs (λ s t. is_stored s ≡ true → is_stored t ≡ true → Apart s t) (places_of p.sections) =
      pairs-unfilter Apart is_stored (places_of p.sections) (pairs-unmap (λ a b. apart a b ≡ true) file_range (filter is_stored (places_of p.sections)) (all_apart_pairs (stored_ranges (places_of p.sections)) all)) in
      pairs-less (λ s t. is_stored s ≡ true → is_stored t ≡ true → Apart s t) (places_of p.sections) pairs i j (place_of h) (place_of l) less (at-map place_of p.sections i h at_h)
      (at-map place_of p.sections j l at_l)

  -- places share no byte where places that equal them share none
  places_apart : (s t a b : Place) → s ≡ a → t ≡ b → (is_stored a ≡ true → is_stored b ≡ true → apart (file_range a) (file_range b) ≡ true)
      → is_stored s ≡ true → is_stored t ≡ true → apart (file_range s) (file_range t) ≡ true
  places_apart s t a b is_a is_b here =
      let First : Place → Type 0 = λ s. is_stored s ≡ true → is_stored b ≡ true → apart (file_range s) (file_range b) ≡ true in
      let Second : Place → Type 0 = λ t. is_stored s ≡ true → is_stored t ≡ true → apart (file_range s) (file_range t) ≡ true in
      subst Second (sym is_b) (subst First (sym is_a) here)

  sections_apart : Pairs (λ k l. was_stored k ≡ true → was_stored l ≡ true → apart (bytes_of k) (bytes_of l) ≡ true) (kept_sections image)
  sections_apart = pairs-from (λ k l. was_stored k ≡ true → was_stored l ≡ true → apart (bytes_of k) (bytes_of l) ≡ true) (kept_sections image) (λ i j k l less at_k at_l.
      let from_k = is_from i k at_k in
      let from_l = is_from j l at_l in
      let within = slice_get_within image.section_numbers j l.number (kept-at 0 image.section_numbers image.sections j l at_l).1 in
      let rising = edit.sections.rising i j less within in
      let numbers : k.number < l.number = let a = from_k.numbered in let b = from_l.numbered in omega (arith, rising, a, b) in
      places_apart (place_at_read k.section) (place_at_read l.section) (place_of from_k.header) (place_of from_l.header) from_k.place from_l.place
      (headers_apart k.number l.number from_k.header from_l.header numbers from_k.at_header from_l.at_header))

  -- two sections that were read and stored share no byte
  read_apart : Pairs (λ k l. was_stored k ≡ true → was_stored l ≡ true → apart (bytes_of k) (bytes_of l) ≡ true) (kept_sections read)
  read_apart = pairs-from (λ k l. was_stored k ≡ true → was_stored l ≡ true → apart (bytes_of k) (bytes_of l) ≡ true) (kept_sections read) (λ i j k l less at_k at_l.
      let (header_k, at_header_k, is_k) = has.sections.each i k.section (kept-at 0 read.section_numbers read.sections i k at_k).2 in
      let (header_l, at_header_l, is_l) = has.sections.each j l.section (kept-at 0 read.section_numbers read.sections j l at_l).2 in
      places_apart (place_at_read k.section) (place_at_read l.section) (place_of header_k) (place_of header_l) (ap place_at_read is_k.fields) (ap place_at_read is_l.fields)
      (headers_apart i j header_k header_l less at_header_k at_header_l))

  -- ## Sizes that never change

  interpreter_type : (i : ℕ) (k : KeptSection) → slice_get (kept_sections image) i ≡ Some k → is_numbered (interpreter_number read) k ≡ true → k.section.sh_type ≡ SHT_PROGBITS
  interpreter_type i k at is = by_number (interpreter_number read) refl is
    where
      by_number : (o : Option ℕ) → interpreter_number read ≡ o → is_some_and (λ n. n == k.number) o ≡ true → k.section.sh_type ≡ SHT_PROGBITS
      by_number None e h = absurd (false≢true h)
      by_number (Some n) e h =
          let (q, _, rest) = bind_some (segment_of_type PT_INTERP read.segments) (λ q. find (λ s. stands_as_interpreter q s.section) (kept_sections read) >>= λ s. Some s.number) n e in
          let (s, found, number) = bind_some (find (λ s. stands_as_interpreter q s.section) (kept_sections read)) (λ s. Some s.number) n rest in
          let (j, at_s, stands) = find-at (λ s. stands_as_interpreter q s.section) (kept_sections read) s found in
          let (_, at_number, at_section) = kept-at 0 read.section_numbers read.sections j s at_s in
          let counts : slice_get (counted (length read.sections)) j ≡ Some s.number = subst (λ (l : List ℕ). slice_get l j ≡ Some s.number) has.section_numbers at_number in
          let own : s.number ≡ j = counted_at (length read.sections) j s.number counts in
          let mine : n ≡ k.number = eqb-true n k.number h in
          let same_number : j ≡ k.number = sym own ∙ same_Some s.number n number ∙ mine in
          let from = is_from i k at in
          let there : slice_get read.sections k.number ≡ Some s.section = subst (λ (m : ℕ). slice_get read.sections m ≡ Some s.section) same_number at_section in
          let same_section : from.old ≡ s.section = same_at read.sections k.number from.old s.section from.at_read there in
          let z = s.section in
          let typed : (z.sh_type == SHT_PROGBITS) ≡ true =
          (and_parts (z.sh_type == SHT_PROGBITS) (z.sh_offset == q.p_offset) (and_parts (z.sh_type == SHT_PROGBITS && z.sh_offset == q.p_offset) (z.sh_addr == q.p_vaddr)
          (and_parts (z.sh_type == SHT_PROGBITS && z.sh_offset == q.p_offset && z.sh_addr == q.p_vaddr) (z.sh_size == q.p_filesz) stands).0).0).0 in
          ap (λ (x : ImageSection). x.sh_type) from.same ∙ ap (λ (x : ImageSection). x.sh_type) same_section ∙ eqb-true z.sh_type SHT_PROGBITS typed

  size_by : KeptSection → Bool → ℕ
  size_by k b = if b then interpreter_size image k.section else table_size read image k

  size_is : (k : KeptSection) → new_size read image k ≡ size_by k (is_numbered (interpreter_number read) k)
  unfolding new_size size_by
  size_is k = refl

  keeps_size : Each (λ k. (k.section.sh_type ≡ SHT_NOBITS) ⊎ (k.section.sh_type ≡ SHT_NOTE) → new_size read image k ≡ k.section.sh_size) (kept_sections image)
  unfolding size_by
  keeps_size = each-from (λ k. (k.section.sh_type ≡ SHT_NOBITS) ⊎ (k.section.sh_type ≡ SHT_NOTE) → new_size read image k ≡ k.section.sh_size) (kept_sections image) (λ i k at type.
      size_is k ∙ by_number k type (is_numbered (interpreter_number read) k) (λ is. interpreter_type i k at is))
    where
      by_number : (k : KeptSection) → (k.section.sh_type ≡ SHT_NOBITS) ⊎ (k.section.sh_type ≡ SHT_NOTE) → (b : Bool) → (b ≡ true → k.section.sh_type ≡ SHT_PROGBITS) → size_by k b ≡ k.section.sh_size
      by_number k (inl e) true is = let type = is refl in absurd (omega (arith, e, type))
      by_number k (inr e) true is = let type = is refl in absurd (omega (arith, e, type))
      by_number k (inl e) false is = size-nobits read image k e
      by_number k (inr e) false is = size-note read image k e

  -- ## Loaded segments

  read_fit : Each (λ q. q.p_filesz ≤ q.p_memsz) (loads_of read.segments)
  read_fit =
      subst (λ (l : List SegmentHeader). Each (λ q. q.p_filesz ≤ q.p_memsz) (loads_of l)) (sym has.segments)
      (each-more (λ q. nat_le q.p_filesz q.p_memsz ≡ true) (λ q. q.p_filesz ≤ q.p_memsz) (λ q h. leb-true q.p_filesz q.p_memsz h) (loads_of p.segments) (all-at (λ q. nat_le q.p_filesz q.p_memsz) (loads_of p.segments) rules.fit))

  read_in_file : Each (λ q. end_of (file_part q) ≤ length image.source) (loads_of read.segments)
  read_in_file =
      let lie = (and_parts (list_all (λ s. ends_by (length (file_of p)) (file_range s)) (filter occupies_file (places_of p.sections))) (list_all (λ q. ends_by (length (file_of p)) (file_part q)) (loads_of p.segments)) rules.in_file).1 in
      let within : Each (λ q. end_of (file_part q) ≤ length (file_of p)) (loads_of p.segments) =
      each-more (λ q. ends_by (length (file_of p)) (file_part q) ≡ true) (λ q. end_of (file_part q) ≤ length (file_of p)) (λ q h. leb-true (end_of (file_part q)) (length (file_of p)) h) (loads_of p.segments)
      (all-at (λ q. ends_by (length (file_of p)) (file_part q)) (loads_of p.segments) lie) in
      let P : List ℕ → Type 0 = λ file. Each (λ q. end_of (file_part q) ≤ length file) (loads_of read.segments) in
      subst P source (subst (λ (l : List SegmentHeader). Each (λ q. end_of (file_part q) ≤ length (file_of p)) (loads_of l)) (sym has.segments) within)

  read_bytes_apart : Pairs (λ q o. apart (file_part q) (file_part o) ≡ true) (loads_of read.segments)
  read_bytes_apart =
      subst (λ (l : List SegmentHeader). Pairs (λ q o. apart (file_part q) (file_part o) ≡ true) (loads_of l)) (sym has.segments)
      (pairs-unmap (λ a b. apart a b ≡ true) file_part (loads_of p.segments) (all_apart_pairs (map file_part (loads_of p.segments)) (and_parts (addresses_apart p.segments) (all_apart (map file_part (loads_of p.segments))) rules.segments).1))

  -- ## As they were read

  originals : Each (IsOriginal read) (kept_sections image)
  originals = each-from (IsOriginal read) (kept_sections image) (λ i k at.
      let from = is_from i k at in
      let within = slice_get_within read.sections k.number from.old from.at_read in
      let number : slice_get read.section_numbers k.number ≡ Some k.number = ap (λ (l : List ℕ). slice_get l k.number) has.section_numbers ∙ slice_get-counted (length read.sections) k.number within in
      let (old, at_old, same_number, same_section) = kept-there 0 read.section_numbers read.sections k.number k.number from.old number from.at_read in
      record {
        place = k.number;
        old = old;
        is_there = at_old;
        same_number = same_number;
        same = from.same ∙ ap (λ (s : ImageSection). record s { name = k.section.name }) (sym same_section);
      })

  numbers : (i : ℕ) (k : KeptSection) → slice_get (kept_sections read) i ≡ Some k → k.number ≡ i
  numbers i k at =
      let (_, at_number, _) = kept-at 0 read.section_numbers read.sections i k at in
      counted_at (length read.sections) i k.number (subst (λ (l : List ℕ). slice_get l i ≡ Some k.number) has.section_numbers at_number)

  facts : AreFacts r
  unfolding r new_sizes
  facts = record {
    form = edit.form;
    table = ap (λ (h : Header). h.e_phoff) edit.header;
    left = left;
    are_left = are_left;
    loads = loads-edited read.header.e_phoff image.page_size read.segments image.segments edit.segments;
    sized = sized_from-map (new_size read image) (kept_sections image);
    fit = each_left read.header.e_phoff (loads_end image.segments) (λ q. q.p_filesz ≤ q.p_memsz) read.segments left are_left read_fit;
    in_file = each_left read.header.e_phoff (loads_end image.segments) (λ q. end_of (file_part q) ≤ length image.source) read.segments left are_left read_in_file;
    bytes_apart = pairs_left read.header.e_phoff (loads_end image.segments) (λ q o. apart (file_part q) (file_part o) ≡ true) read.segments left are_left read_bytes_apart;
    held = held;
    something = something;
    sections_apart = sections_apart;
    read_apart = read_apart;
    keeps_size = keeps_size;
    originals = originals;
    numbers = numbers;
    complete = edit.complete;
  }

-- the image with its sizes, where the one that was read is known
abbrev pub resized_with : Image → Image → Resized
resized_with image read = record { read = read; image = image; sizes = new_sizes read image }

pub read_is : (image : Image) (read : Image) → image_of image.source ≡ Ok read → resized_with image read ≡ resized image
read_is image read h = ap (λ (o : Result Image ElfFault). resized_with image (elim o [ Ok found ↦ found | Err _ ↦ image ])) (sym h)

-- every image that was read and edited
pub edited_facts : (image : Image) → IsEdited image → AreFacts (resized image)
unfolding r
edited_facts image edited =
    let (p, _, parts, rules, has) = read_images_hold_parts image.source edited.read edited.is_read in
    subst AreFacts (read_is image edited.read edited.is_read) (facts image edited.read edited.is_edit p rules has parts.same_file)
