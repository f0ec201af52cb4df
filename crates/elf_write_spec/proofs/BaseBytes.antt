-- The bytes of data stand in a written file as they stood in the file that was read.
use Rattle.std.proofs.Common.{◌≡◌, ◌≤◌, ◌<◌, ◌⊎◌, ℕ, ◌+◌, ◌*◌, Bool, true, false, eqb, List, filter, length, refl, sym, ap, ◌∙◌, subst, inl, inr, Some, arith, []}
use Rattle.std.specs.Prelude.{◌&&◌, ◌==◌, not, nat_le, nat_lt, slice_index}
use Rattle.std.specs.List.{list_all, list_any, slice_get}
use Rattle.std.proofs.lemmas.Bool.{and_from, and_parts, both_ways, cases_Bool, cases_order, cond-true, eqb-true, false_from_ne_true, le-leb, leb-true, lt-ltb, ltb-true, not-true, not_from_false}
use Rattle.std.proofs.lemmas.Option.{same_Some, slice_get_within}
use Rattle.patch_bytes.specs.Number.{field}
use Rattle.elf_format.specs.declared.constants.TheConstants.{SHT_DYNAMIC}
use Rattle.elf_format.specs.declared.range.Range.{Range}
use Rattle.elf_format.specs.declared.form.Form.{Form}
use Rattle.elf_format.specs.File.{loads_of}
use Rattle.elf_format.specs.Image.{Image, ImageSection}
use Rattle.elf_format.specs.Placement.{ends_by, file_part, is_stored, sections_held, something_loaded, stored_apart, stored_clear_of, stored_ranges}
use Rattle.elf_format.specs.Places.{Place, file_range, occupies_file, occupies_memory, place_of, places_of}
use Rattle.elf_format.specs.Ranges.{all_apart, apart, end_of, range}
use Rattle.elf_format.specs.Records.{file_header_size, segment_header_size}
use Rattle.elf_format.specs.Rules.{file_of, header_range, header_ranges, segment_table_range}
use Rattle.elf_layout_plan.specs.FilePlaced.{written_size}
use Rattle.elf_image.specs.Kept.{KeptSection, image_at_read, kept_sections, place_at_read}
use Rattle.elf_layout_plan.specs.Memory.{Resized, table_at_read}
use Rattle.elf_layout_plan.specs.Plan.{resized}
use Rattle.elf_layout_plan.proofs.ForCallers.ApartBlocks.{all_apart_pairs, apart-meet}
use Rattle.elf_layout_plan.proofs.ForCallers.ApartLists.{all-at, at-map, each-at, each-from, each-map, each-unfilter, each-unmap, filter-at, none-from, pairs-less, pairs-unfilter, pairs-unmap}
use Rattle.elf_layout_plan.proofs.ForCallers.ApartSections.{kept-at}
use Rattle.elf_layout_plan.proofs.ForCallers.PlacedLists.{any-from as any-has}
use Rattle.elf_write_spec.specs.Base.{base, base_byte, does_byte_stay, has_position, is_data, is_opaque, is_rewritten, leaves_place, old_places}
use Rattle.elf_write_spec.specs.Output.{IsPlannedOutput, Output, written_bytes}
use Rattle.elf_write_spec.proofs.DataStays.{DataFacts, IsNoTable, data_facts, data_keeps_size, fixed_in_load, fixed_keeps_offset, no_table}
use Rattle.elf_write_spec.proofs.Laying.{AreApart, field-values}
use Rattle.elf_write_spec.proofs.Patches.{data_is_apart, keeps_base, places_in_file, swapped}
use Rattle.elf_write_spec.proofs.WholeFacts.{ReadFacts, SectionAt, read_at, section_at}
use Rattle.elf_write_spec.proofs.WholeEdits.{one_number}
use Rattle.elf_format.proofs.ForCallers.Lengths.{length-segments}
use Rattle.elf_write_spec.proofs.NumberedSections.{kept_as}

-- ## Positions and ranges

pub has_from : (x : Range) (k : ℕ) → x.start ≤ k → k < end_of x → has_position k x ≡ true
has_from x k begins ends = and_from (nat_le x.start k) (nat_lt k (end_of x)) (le-leb x.start k begins) (lt-ltb k (end_of x) ends)

pub has_at : (x : Range) (k : ℕ) → has_position k x ≡ true → (x.start ≤ k) × (k < end_of x)
has_at x k h =
    let both = and_parts (nat_le x.start k) (nat_lt k (end_of x)) h in
    (leb-true x.start k both.0, ltb-true k (end_of x) both.1)

-- a position in a range isn't in one that is apart from it
pub not_in : (x y : Range) (k : ℕ) → AreApart x y → x.start ≤ k → k < end_of x → has_position k y ≡ false
not_in x y k h begins ends = false_from_ne_true (has_position k y) (λ there.
    let at = has_at y k there in apart-meet x y k h begins ends at.0 at.1)

-- a position isn't in an empty range
not_in_empty : (x : Range) (k : ℕ) → x.size ≡ 0 → has_position k x ≡ false
not_in_empty x k none = false_from_ne_true (has_position k x) (λ there.
    let at = has_at x k there in
    let begins : x.start ≤ k = at.0 in
    let ends : k < x.start + x.size = at.1 in
    absurd (omega arith))

-- ## As many program headers as the file header says

-- ## What was read

module _ (w : Output) (is : IsPlannedOutput w) (f : ReadFacts w) where
  abbrev r : Resized
  r = resized w.image

  abbrev read_places : List Place
  read_places = places_of f.parts.sections

  same_form : w.image.form ≡ f.parts.opened.form
  same_form = f.edit.form ∙ f.holds.form

  table_was : table_at_read r ≡ segment_table_range f.parts
  table_was =
      let read : Image = image_at_read w.image in
      let offset : read.header.e_phoff ≡ f.parts.opened.header.e_phoff = ap (λ h. h.e_phoff) f.holds.header in
      let many : length read.segments ≡ f.parts.opened.header.e_phnum =
      ap length f.holds.segments ∙ length-segments f.parts.opened f.parts.segments f.are_parts.segments in
      ap (λ (n : ℕ). range n (length read.segments * segment_header_size read.form)) offset
      ∙ ap (λ (n : ℕ). range f.parts.opened.header.e_phoff (n * segment_header_size read.form)) many
      ∙ ap (λ (x : Form). range f.parts.opened.header.e_phoff (f.parts.opened.header.e_phnum * segment_header_size x)) f.holds.form

  loaded_rules : (sections_held f.parts.segments read_places ≡ true) × (all_apart (stored_ranges read_places) ≡ true)
      × (stored_clear_of (header_ranges f.parts) read_places ≡ true)
  loaded_rules =
      let outer = and_parts (sections_held f.parts.segments read_places && something_loaded f.parts.segments read_places)
      (stored_apart (header_ranges f.parts) read_places) f.rules.loaded in
      let inner = and_parts (sections_held f.parts.segments read_places) (something_loaded f.parts.segments read_places) outer.0 in
      let last = and_parts (all_apart (stored_ranges read_places)) (stored_clear_of (header_ranges f.parts) read_places) outer.1 in
      (inner.0, last.0, last.1)

  -- the range of a header shares no byte with what was stored
  clear_at : (x : Range) → list_all (λ y. apart x y) (stored_ranges read_places) ≡ true → (i : ℕ) (s : Place)
      → slice_get read_places i ≡ Some s
      → is_stored s ≡ true → AreApart x (file_range s)
  clear_at x h i s at stored =
      each-at (λ s. is_stored s ≡ true → AreApart x (file_range s)) read_places
      (each-unfilter (λ s. AreApart x (file_range s)) is_stored read_places
      (each-unmap (AreApart x) file_range (filter is_stored read_places) (all-at (λ y. apart x y) (stored_ranges read_places) h)))
      i s at stored

  clear_of_headers : (list_all (λ y. apart (header_range f.parts) y) (stored_ranges read_places) ≡ true)
      × (list_all (λ y. apart (segment_table_range f.parts) y) (stored_ranges read_places) ≡ true)
  clear_of_headers =
      let each = all-at (λ h. list_all (λ y. apart h y) (stored_ranges read_places)) (header_ranges f.parts) loaded_rules.2 in
      (each.0, each.1.0)

  -- of two stored sections at different positions
  two_were_apart : (i j : ℕ) (s t : Place) → i < j → slice_get read_places i ≡ Some s → slice_get read_places j ≡ Some t
      → is_stored s ≡ true → is_stored t ≡ true → AreApart (file_range s) (file_range t)
  two_were_apart i j s t less at_s at_t s_stored t_stored =
      pairs-less (λ x y. is_stored x ≡ true → is_stored y ≡ true → AreApart (file_range x) (file_range y)) read_places
      (pairs-unfilter (λ x y. AreApart (file_range x) (file_range y)) is_stored read_places
      (pairs-unmap AreApart file_range (filter is_stored read_places) (all_apart_pairs (stored_ranges read_places) loaded_rules.1)))
      i j s t less at_s at_t s_stored t_stored

  place_was : (i : ℕ) (at : SectionAt w f.parts i) → slice_get read_places at.number ≡ Some (place_of at.old)
  place_was i at = at-map place_of f.parts.sections at.number at.old at.is_old

  pub section_place : (i : ℕ) (at : SectionAt w f.parts i) → place_at_read at.section ≡ place_of at.old
  section_place i at = ap place_at_read at.of_old.fields

  -- data has a type that is no table's
  not_table : (i : ℕ) (at : SectionAt w f.parts i) → is_data r.read (kept_as i at.number at.section) ≡ true → IsNoTable at.section.sh_type
  not_table i at is_it =
      let facts = data_facts r (kept_as i at.number at.section) is_it in
      subst (λ (n : ℕ). IsNoTable n) (ap (λ (x : ImageSection). x.sh_type) (sym at.of_old.fields))
      (no_table f.parts at.old (ap (λ (x : ImageSection). is_opaque x.kind) (sym at.of_old.fields) ∙ facts.opaque))

  -- ## Bytes that stay

  -- data is in a loaded segment that is still there
  in_load : (i : ℕ) (at : SectionAt w f.parts i) → is_data r.read (kept_as i at.number at.section) ≡ true → is_stored (place_of at.old) ≡ true
      → (k : ℕ) → at.old.sh_offset ≤ k → k < at.old.sh_offset + at.old.sh_size
      → list_any (λ p. has_position k (file_part p)) (loads_of r.image.segments) ≡ true
  in_load i at is_it stored k begins ends =
      let x : KeptSection = kept_as i at.number at.section in
      let facts = data_facts r x is_it in
      let held = fixed_in_load w.image w.plan is.edited is.planned i x at.is_kept facts.other (not_table i at is_it)
      (ap is_stored (section_place i at) ∙ stored) in
      let offset : at.section.sh_offset ≡ at.old.sh_offset = ap (λ (s : ImageSection). s.sh_offset) at.of_old.fields in
      let size : at.section.sh_size ≡ at.old.sh_size = ap (λ (s : ImageSection). s.sh_size) at.of_old.fields in
      any-has (λ q. has_position k (file_part q)) (loads_of r.image.segments) held.load held.here
      (has_from (file_part held.load) k (omega (arith, begins, held.begins, offset)) (omega (arith, ends, held.ends, offset, size)))

  -- what is written anew didn't have a byte of data
  not_rewritten : (i : ℕ) (at : SectionAt w f.parts i) → is_data r.read (kept_as i at.number at.section) ≡ true → is_stored (place_of at.old) ≡ true
      → (k : ℕ) → at.old.sh_offset ≤ k → k < at.old.sh_offset + at.old.sh_size
      → (j : ℕ) (s : KeptSection) → slice_get (kept_sections w.image) j ≡ Some s → is_rewritten r.read s ≡ true
      → has_position k (file_range (place_at_read s.section)) ≡ false
  not_rewritten i at is_it stored k begins ends j s at_s rewritten =
      let below = slice_get_within w.image.sections j s.section (kept-at 0 w.image.section_numbers w.image.sections j s at_s).2 in
      let other : SectionAt w f.parts j = section_at w is f j below in
      let same : s ≡ kept_as j other.number other.section = same_Some s (kept_as j other.number other.section) (sym at_s ∙ other.is_kept) in
      let outer = and_parts (occupies_memory (place_at_read s.section) && occupies_file (place_at_read s.section))
      (not (is_data r.read s)) rewritten in
      let place : place_at_read s.section ≡ place_of other.old = ap (λ (x : KeptSection). place_at_read x.section) same
      ∙ section_place j other in
      let no_data : is_data r.read s ≡ false = not-true (is_data r.read s) outer.1 in
      subst (λ (x : Place). has_position k (file_range x) ≡ false) (sym place) (by_size other (cases_Bool (eqb other.old.sh_size 0))
      (ap (λ (x : Place). occupies_memory x && occupies_file x) (sym place) ∙ outer.0)
      (λ e. both_ways (is_data r.read s) no_data (ap (is_data r.read) (same ∙ one other e) ∙ is_it)))
    where
      one : (other : SectionAt w f.parts j) → other.number ≡ at.number
          → kept_as j other.number other.section ≡ kept_as i at.number at.section
      one other e =
          let index : j ≡ i = one_number (image_at_read w.image) w.image f j i (read_at other) (read_at at) e in
          same_Some (kept_as j other.number other.section) (kept_as i at.number at.section)
          (sym other.is_kept ∙ ap (slice_get (kept_sections w.image)) index ∙ at.is_kept)

      by_size : (other : SectionAt w f.parts j) → (eqb other.old.sh_size 0 ≡ true) ⊎ (eqb other.old.sh_size 0 ≡ false)
          → (occupies_memory (place_of other.old) && occupies_file (place_of other.old)) ≡ true → (other.number ≡ at.number → ⊥)
          → has_position k (file_range (place_of other.old)) ≡ false
      by_size other (inl none) taken differ = not_in_empty (file_range (place_of other.old)) k (eqb-true other.old.sh_size 0 none)
      by_size other (inr some) taken differ =
          let t : Place = place_of other.old in
          let t_stored : is_stored t ≡ true =
          and_from (occupies_memory t && occupies_file t) (not (eqb t.sh_size 0)) taken (not_from_false (eqb t.sh_size 0) some) in
          not_in (file_range (place_of at.old)) (file_range t) k (elim (cases_order other.number at.number) [
            | inl same ↦ absurd (differ same)
            | inr (inl less) ↦ swapped (file_range t) (file_range (place_of at.old))
                (two_were_apart other.number at.number t (place_of at.old) less (place_was j other) (place_was i at) t_stored stored)
            | inr (inr more) ↦ two_were_apart at.number other.number (place_of at.old) t more (place_was i at) (place_was j other) stored t_stored
          ]) begins ends

  -- no old place had one
  in_no_old_place : (i : ℕ) (at : SectionAt w f.parts i) → is_data r.read (kept_as i at.number at.section) ≡ true → is_stored (place_of at.old) ≡ true
      → (k : ℕ) → at.old.sh_offset ≤ k → k < at.old.sh_offset + at.old.sh_size → list_any (has_position k) (old_places r.read r.image) ≡ false
  in_no_old_place i at is_it stored k begins ends =
      let s : Place = place_of at.old in
      let header = clear_at (header_range f.parts) clear_of_headers.0 at.number s (place_was i at) stored in
      let table = clear_at (segment_table_range f.parts) clear_of_headers.1 at.number s (place_was i at) stored in
      let P : Range → Type 0 = λ x. has_position k x ≡ false in
      none-from (has_position k) (old_places r.read r.image) (
        not_in (file_range s) (range 0 (file_header_size w.image.form)) k
            (subst (λ (x : Form). AreApart (file_range s) (range 0 (file_header_size x))) (sym same_form)
            (swapped (header_range f.parts) (file_range s) header)) begins ends,
        (
          not_in (file_range s) (table_at_read r) k
              (subst (λ (x : Range). AreApart (file_range s) x) (sym table_was)
              (swapped (segment_table_range f.parts) (file_range s) table)) begins ends,
          each-map P (λ x. file_range (place_at_read x.section)) (filter (leaves_place r.read r.image) (kept_sections w.image))
              (each-from (λ x. P (file_range (place_at_read x.section))) (filter (leaves_place r.read r.image) (kept_sections w.image)) (λ n x at_n.
              let (j, at_x, rewritten) = filter-at (leaves_place r.read r.image) (kept_sections w.image) n x at_n in
              let both = and_parts (is_rewritten r.read x) (not (x.section.sh_type == SHT_DYNAMIC && r.image.moves_dynamic)) rewritten in
              not_rewritten i at is_it stored k begins ends j x at_x both.0)),
        ),
      )

  -- a place where data was is in the base
  pub base_has : (i : ℕ) (at : SectionAt w f.parts i) → is_data r.read (kept_as i at.number at.section) ≡ true → is_stored (place_of at.old) ≡ true
      → (k : ℕ) → at.old.sh_offset ≤ k → k < at.old.sh_offset + at.old.sh_size → base_byte r k ≡ slice_index w.image.source k
  base_has i at is_it stored k begins ends =
      let loaded : Bool = list_any (λ p. has_position k (file_part p)) (loads_of r.image.segments) in
      let old : Bool = list_any (has_position k) (old_places r.read r.image) in
      cond-true (does_byte_stay r k) (slice_index w.image.source k) 0
      (and_from loaded (not old) (in_load i at is_it stored k begins ends)
      (not_from_false old (in_no_old_place i at is_it stored k begins ends)))

  -- ## Data in the written file

  -- data stands where it was
  pub data_offset : (i : ℕ) (at : SectionAt w f.parts i) → is_data r.read (kept_as i at.number at.section) ≡ true → is_stored (place_of at.old) ≡ true
      → is_stored at.place ≡ true → at.place.sh_offset ≡ at.old.sh_offset
  data_offset i at is_it stored stored_now =
      let facts = data_facts r (kept_as i at.number at.section) is_it in
      fixed_keeps_offset w.image w.plan is.edited is.planned i (kept_as i at.number at.section) at.place at.is_kept at.is_place facts.other
      (not_table i at is_it)
      (ap is_stored (section_place i at) ∙ stored) stored_now refl
      ∙ ap (λ (x : ImageSection). x.sh_offset) at.of_old.fields

  pub data_size : (i : ℕ) (at : SectionAt w f.parts i) → is_data r.read (kept_as i at.number at.section) ≡ true → at.place.sh_size ≡ at.old.sh_size
  data_size i at is_it =
      let facts = data_facts r (kept_as i at.number at.section) is_it in
      at.place_size ∙ data_keeps_size (image_at_read w.image) w.image (kept_as i at.number at.section) facts.other (not_table i at is_it)
      ∙ ap (λ (x : ImageSection). x.sh_size) at.of_old.fields

  place_stored : (i : ℕ) (at : SectionAt w f.parts i) → is_stored (place_of at.old) ≡ true → at.place.sh_size ≡ at.old.sh_size
      → is_stored at.place ≡ true
  place_stored i at stored size =
      ap (λ (n : ℕ). occupies_memory (record at.place { sh_flags = n }) && occupies_file at.place && not (eqb at.place.sh_size 0))
      at.place_flags
      ∙ ap (λ (n : ℕ). occupies_memory (record at.place { sh_flags = at.old.sh_flags })
      && occupies_file (record at.place { sh_type = n }) && not (eqb at.place.sh_size 0)) at.place_type
      ∙ ap (λ (n : ℕ). occupies_memory (place_of at.old) && occupies_file (place_of at.old) && not (eqb n 0)) size ∙ stored

  base_field : (i : ℕ) (at : SectionAt w f.parts i) → is_data r.read (kept_as i at.number at.section) ≡ true → is_stored (place_of at.old) ≡ true
      → (size : ℕ)
      → at.old.sh_offset + at.old.sh_size ≤ size → at.old.sh_offset + at.old.sh_size ≤ length w.image.source
      → field at.old.sh_size at.old.sh_offset (base r size) ≡ field at.old.sh_size at.old.sh_offset w.image.source
  unfolding base
  base_field i at is_it stored size inside there =
      field-values (base_byte r) size at.old.sh_size at.old.sh_offset w.image.source inside there
      (λ k begins ends. base_has i at is_it stored k begins ends)

  -- the bytes of data stand where the section is written
  pub data_stands : (i : ℕ) (at : SectionAt w f.parts i) → is_data r.read (kept_as i at.number at.section) ≡ true → occupies_file at.place ≡ true
      → field at.place.sh_size at.place.sh_offset (written_bytes w) ≡ field at.old.sh_size at.old.sh_offset w.image.source
  data_stands i at is_it in_file = elim (cases_Bool (eqb at.old.sh_size 0)) [
    | inl none ↦ empty at.place.sh_size at.place.sh_offset (written_bytes w) (data_size i at is_it ∙ eqb-true at.old.sh_size 0 none)
        ∙ sym (empty at.old.sh_size at.old.sh_offset w.image.source (eqb-true at.old.sh_size 0 none))
    | inr some ↦
        let stored = old_stored some in
        let size : at.place.sh_size ≡ at.old.sh_size = data_size i at is_it in
        let offset : at.place.sh_offset ≡ at.old.sh_offset = data_offset i at is_it stored (place_stored i at stored size) in
        keeps_base w is (file_range at.place) (data_is_apart w is i (kept_as i at.number at.section) at.place at.is_kept at.is_place in_file is_it)
        ∙ ap (λ (n : ℕ). field n at.place.sh_offset (base r (written_size r w.plan))) size
        ∙ ap (λ (n : ℕ). field at.old.sh_size n (base r (written_size r w.plan))) offset
        ∙ base_field i at is_it stored (written_size r w.plan) (omega (arith, offset, size, place_ends)) old_ends
  ]
    where
      empty : (n pos : ℕ) (bytes : List ℕ) → n ≡ 0 → field n pos bytes ≡ []
      empty n pos bytes none = ap (λ (k : ℕ). field k pos bytes) none

      same_file : occupies_file (place_of at.old) ≡ occupies_file at.place
      same_file = ap (λ (n : ℕ). occupies_file (record at.place { sh_type = n })) (sym at.place_type)

      facts : DataFacts r (kept_as i at.number at.section)
      facts = data_facts r (kept_as i at.number at.section) is_it

      old_stored : eqb at.old.sh_size 0 ≡ false → is_stored (place_of at.old) ≡ true
      old_stored some =
          let s : Place = place_of at.old in
          and_from (occupies_memory s && occupies_file s) (not (eqb s.sh_size 0))
          (and_from (occupies_memory s) (occupies_file s) (ap occupies_memory (sym (section_place i at)) ∙ facts.loaded)
          (same_file ∙ in_file))
          (not_from_false (eqb s.sh_size 0) some)

      place_ends : at.place.sh_offset + at.place.sh_size ≤ written_size r w.plan
      place_ends = each-at (λ p. occupies_file p ≡ true → end_of (file_range p) ≤ written_size r w.plan) w.plan.places
          (places_in_file w is) i at.place at.is_place in_file

      old_ends : at.old.sh_offset + at.old.sh_size ≤ length w.image.source
      old_ends =
          let long : ℕ = length (file_of f.parts) in
          let all = (and_parts (list_all (λ s. ends_by long (file_range s)) (filter occupies_file read_places))
          (list_all (λ p. ends_by long (file_part p)) (loads_of f.parts.segments)) f.rules.in_file).0 in
          let ends : ends_by long (file_range (place_of at.old)) ≡ true =
          each-at (λ s. occupies_file s ≡ true → ends_by long (file_range s) ≡ true) read_places
          (each-unfilter (λ s. ends_by long (file_range s) ≡ true) occupies_file read_places
          (all-at (λ s. ends_by long (file_range s)) (filter occupies_file read_places) all)) at.number (place_of at.old) (place_was i at)
          (same_file ∙ in_file) in
          subst (λ (l : List ℕ). at.old.sh_offset + at.old.sh_size ≤ length l) f.are_parts.same_file
          (leb-true (at.old.sh_offset + at.old.sh_size) long ends)
