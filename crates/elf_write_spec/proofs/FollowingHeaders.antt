-- What becomes of each program header of the image, by what it goes by.
use Rattle.std.proofs.Common.{◌≡◌, ◌≤◌, ◌⊎◌, ℕ, ◌+◌, ◌-◌, ◌*◌, Bool, true, false, List, [], ◌∷◌, ◌++◌, map, length, refl, sym, ap, ◌∙◌, subst, inl, inr, Option, Some, None, arith}
use Rattle.std.specs.Prelude.{◌==◌, if◌then◌else◌, max, nat_lt, not}
use Rattle.std.specs.List.{AllByRecursion, cons_option, flat_map, list_any, slice_get}
use Rattle.std.proofs.lemmas.Bool.{cases_eq, or_parts}
use Rattle.std.proofs.lemmas.List.{length-append, length-map}
use Rattle.elf_format.specs.declared.constants.TheConstants.{PT_PHDR}
use Rattle.elf_format.specs.declared.form.Form.{Form}
use Rattle.elf_format.specs.declared.records.SegmentHeader.{SegmentHeader}
use Rattle.elf_format.specs.Image.{Image, ImageSection}
use Rattle.elf_format.specs.Places.{Place, file_range}
use Rattle.elf_format.specs.Ranges.{end_of}
use Rattle.elf_format.specs.Records.{segment_header_size}
use Rattle.elf_image.specs.Kept.{KeptSection, kept_sections, place_at_read}
use Rattle.elf_layout_plan.specs.Added.{greatest, header_count}
use Rattle.elf_layout_plan.specs.Anchors.{Anchor, HeaderTable, Itself, Notes, OneSection, anchor_of, is_loaded_section, is_moved, moved_notes, staying_notes}
use Rattle.elf_layout_plan.specs.Memory.{Resized}
use Rattle.elf_layout_plan.specs.Plan.{resized}
use Rattle.elf_layout_plan.specs.Standing.{places}
use Rattle.elf_layout_plan.specs.Written.{Target, address_for, address_in_memory, anchored_to, first_in_file, physical_for, places_of_kept, target_at, target_over, targets_over, with_table_size, written_from}
use Rattle.elf_layout_plan.proofs.ForCallers.ApartLists.{map-at}
use Rattle.elf_layout_plan.proofs.ForCallers.ApartWritten.{load_anchor}
use Rattle.elf_layout_plan.proofs.ForCallers.PlacedLists.{Has, any-at, filter-at, filter-from, filter_map-at, filter_map-from, greatest-at, greatest-first, has_cases, has_here, has_none, has_same, has_there, map-from}
use Rattle.elf_write_spec.specs.KeptSegments.{AreHeadersInOrder, AreHeadersOf, IsAtItsAddress, IsSameHeader, SectionNow, StandsAtSections, StandsAtTable, StandsBy, most_headers}
use Rattle.elf_write_spec.specs.WrittenFile.{places_in}
use Rattle.elf_write_spec.proofs.AnchoredSections.{AreAmong, anchors_among, notes_among, one_among, table_among}
use Rattle.elf_write_spec.proofs.PlannedSections.{IsPlannedAt}
use Rattle.elf_write_spec.proofs.WholeLists.{has_at}
use Rattle.elf_write_spec.proofs.WrittenHeaders.{table_by, targets_by, written_by, written_is}

-- ## Several places

-- the first of several places in the file is one of them
first_step : (s t : Place) (ts : List Place) (b : Bool) → Has (first_in_file t ts) (t ∷ ts) → Has (first_in_file s ts) (s ∷ ts)
    → Has (first_in_file (if b then t else s) ts) (s ∷ t ∷ ts)
first_step s t ts true later here = has_there (first_in_file t ts) s (t ∷ ts) later
first_step s t ts false later here = elim (has_cases (first_in_file s ts) s ts here) [
  | inl same ↦ has_same (first_in_file s ts) s (t ∷ ts) same
  | inr behind ↦ has_there (first_in_file s ts) s (t ∷ ts) (has_there (first_in_file s ts) t ts behind)
]

first_is : (s : Place) (ts : List Place) → Has (first_in_file s ts) (s ∷ ts)
unfolding first_in_file
first_is s [] = has_here s []
first_is s (t ∷ ts) = first_step s t ts (nat_lt t.sh_offset s.sh_offset) (first_is t ts) (first_is s ts)

-- where several places end in the file, one of them does
record EndsAt (ts : List Place) (n : ℕ) : Type 0 where
  place : Place
  here : Has place ts
  ends : end_of (file_range place) ≡ n

abbrev ends_of : List Place → List ℕ
ends_of ts = map (λ t. end_of (file_range t)) ts

other_is : (m n : ℕ) → (max m n ≡ m → ⊥) → n ≡ max m n
other_is m n other = omega (arith, other)

end_step : (n : ℕ) (t : Place) (ts : List Place) → (greatest (max n (end_of (file_range t))) (ends_of ts) ≡ max n (end_of (file_range t)))
    ⊎ EndsAt ts (greatest (max n (end_of (file_range t))) (ends_of ts))
    → (greatest (max n (end_of (file_range t))) (ends_of ts) ≡ n) ⊎ EndsAt (t ∷ ts) (greatest (max n (end_of (file_range t))) (ends_of ts))
end_step n t ts (inr later) = inr (record { place = later.place; here = has_there later.place t ts later.here; ends = later.ends })
end_step n t ts (inl same) = elim (cases_eq (max n (end_of (file_range t))) n) [
  | inl first ↦ inl (same ∙ first)
  | inr other ↦ inr (record { place = t; here = has_here t ts; ends = other_is n (end_of (file_range t)) other ∙ sym same })
]

end_by : (n : ℕ) (ts : List Place) → (greatest n (ends_of ts) ≡ n) ⊎ EndsAt ts (greatest n (ends_of ts))
end_by n [] = inl refl
end_by n (t ∷ ts) = end_step n t ts (end_by (max n (end_of (file_range t))) ts)

end_at : (s : Place) (ts : List Place) → EndsAt (s ∷ ts) (greatest (end_of (file_range s)) (ends_of ts))
end_at s ts = elim (end_by (end_of (file_range s)) ts) [
  | inl same ↦ record { place = s; here = has_here s ts; ends = sym same }
  | inr later ↦ record { place = later.place; here = has_there later.place s ts later.here; ends = later.ends }
]

first_low : (s : Place) (ts : List Place) → (first_in_file s ts).sh_offset ≤ greatest (end_of (file_range s)) (ends_of ts)
first_low s ts = elim (has_cases (first_in_file s ts) s ts (first_is s ts)) [
  | inl same ↦
      let at : s.sh_offset ≡ (first_in_file s ts).sh_offset = ap (λ (x : Place). x.sh_offset) same in
      omega (arith, at, greatest-first (end_of (file_range s)) (ends_of ts))
  | inr later ↦
      let first : Place = first_in_file s ts in
      let in_ends : Has (end_of (file_range first)) (ends_of ts) = map-from (λ (t : Place). end_of (file_range t)) ts first later in
      omega (arith, greatest-at (end_of (file_range s)) (ends_of ts) (end_of (file_range first)) in_ends)
]

-- from a start to an end
fills : (start end n : ℕ) → start ≤ end → n ≡ end → start + (end - start) ≡ n
fills start end n low same = omega (arith, low, same)

-- ## Lists

all_append : {A : Type 0} (P : A → Type 0) (xs ys : List A) → AllByRecursion P xs → AllByRecursion P ys → AllByRecursion P (xs ++ ys)
all_append P [] ys h k = k
all_append P (x ∷ xs) ys h k = (h.0, all_append P xs ys h.1 k)

length-over : (ps : List Place) → length (targets_over ps) ≤ 1
length-over [] = omega arith
length-over (s ∷ ss) = omega arith

some_over : (ps : List Place) (x : Place) → Has x ps → 1 ≤ length (targets_over ps)
some_over [] x here = absurd (has_none x here)
some_over (s ∷ ss) x here = omega arith

-- an address that is there only where a place is in memory
address_by : (b : Bool) (address before : ℕ)
    → (elim (if b then Some address else None) as (λ _. ℕ) [ Some n ↦ n | None ↦ before ]) ≡ (if b then address else before)
address_by true address before = refl
address_by false address before = refl

module _ (image again : Image) (moved : List ℕ) (same_places : places_in again ≡ places (resized image) moved) (same_form : again.form ≡ image.form) where
  abbrev r : Resized
  r = resized image

  -- ## A program header at sections

  -- the place is that of one of some sections
  record IsPlaceOf (sections : List KeptSection) (x : Place) : Type 0 where
    section : SectionNow again sections
    same : place_at_read section.now ≡ x

  stands_at : (p : SegmentHeader) (sections : List KeptSection) (t : Target) (first last : Place) → IsPlaceOf sections first → IsPlaceOf sections last
      → t.address ≡ address_in_memory first → t.part.start ≡ first.sh_offset → end_of t.part ≡ end_of (file_range last)
      → StandsAtSections again p sections (anchored_to image.form p t)
  stands_at p sections t first last f l address start ends = record {
    first = f.section;
    last = l.section;
    offset = start ∙ sym (ap (λ (x : Place). x.sh_offset) f.same);
    end = ends ∙ sym (ap (λ (x : Place). end_of (file_range x)) l.same);
    address =
        ap (λ (o : Option ℕ). elim o as (λ _. ℕ) [ Some n ↦ n | None ↦ p.p_vaddr ]) (address ∙ sym (ap address_in_memory f.same))
        ∙ address_by (is_loaded_section f.section.now) f.section.now.sh_addr p.p_vaddr;
    physical = ap (λ (form : Form). physical_for form p (address_for p t)) (sym same_form);
    memory = refl;
  }

  over_places : (p : SegmentHeader) (sections : List KeptSection) (s : Place) (ts : List Place)
      → ((x : Place) → Has x (s ∷ ts) → IsPlaceOf sections x)
      → StandsAtSections again p sections (anchored_to image.form p (target_over s ts))
  over_places p sections s ts each =
      let first : Place = first_in_file s ts in
      let last = end_at s ts in
      stands_at p sections (target_over s ts) first last.place (each first (first_is s ts)) (each last.place last.here) refl refl
      (fills first.sh_offset (greatest (end_of (file_range s)) (ends_of ts)) (end_of (file_range last.place)) (first_low s ts) last.ends)

  abbrev Stands : SegmentHeader → List KeptSection → Target → Type 0
  Stands p sections t = StandsAtSections again p sections (anchored_to image.form p t)

  over_targets : (p : SegmentHeader) (sections : List KeptSection) (xs : List Place) → ((x : Place) → Has x xs → IsPlaceOf sections x)
      → AllByRecursion (Stands p sections) (targets_over xs)
  over_targets p sections [] each = tt
  over_targets p sections (s ∷ ss) each = (over_places p sections s ss each, tt)

  -- the places of some of the sections
  place_of_one : (sections chosen : List KeptSection) → ((k : KeptSection) → Has k chosen → Has k sections)
      → (x : Place) → Has x (places_of_kept (places r moved) chosen) → IsPlaceOf sections x
  place_of_one sections chosen among x here =
      let given = filter_map-at (λ (k : KeptSection). slice_get (places r moved) k.position) chosen x here in
      let position : ℕ = given.source.position in
      let (i, at) = has_at sections given.source (among given.source given.here) in
      let (now, now_at, same) = map-at place_at_read again.sections position x
      (ap (λ (ps : List Place). slice_get ps position) same_places ∙ given.given) in
      record { section = record { index = i; kept = given.source; is_kept = at; now = now; is_now = now_at }; same = same }

  -- ## What becomes of a program header, by what it goes by

  abbrev Become : SegmentHeader → Anchor → List SegmentHeader → Type 0
  Become p anchor qs = (1 ≤ length qs) × (length qs ≤ most_headers anchor) × AllByRecursion (IsSameHeader again p anchor) qs

  -- a program header stays as it is, or goes to a target
  stays_so : (p : SegmentHeader) (anchor : Anchor) → StandsBy again p anchor p → IsSameHeader again p anchor p
  stays_so p anchor place = record { type = refl; flags = refl; align = refl; place = place }

  goes_so : (p : SegmentHeader) (t : Target) (anchor : Anchor) → StandsBy again p anchor (anchored_to image.form p t)
      → IsSameHeader again p anchor (anchored_to image.form p t)
  goes_so p t anchor place = record { type = refl; flags = refl; align = refl; place = place }

  -- what is read of a section of the image
  place_read : (k : KeptSection) (x : Place) → slice_get (places r moved) k.position ≡ Some x
      → (now : ImageSection) × (slice_get again.sections k.position ≡ Some now) × (place_at_read now ≡ x)
  place_read k x at =
      map-at place_at_read again.sections k.position x (ap (λ (ps : List Place). slice_get ps k.position) same_places ∙ at)

  -- to the one section
  one_by : (p : SegmentHeader) (s : KeptSection) (x : Place) → slice_get (places r moved) s.position ≡ Some x
      → Become p (OneSection s) (written_by image moved p p (map target_at (cons_option (Some x) [])))
  one_by p s x at =
      let (now, now_at, same) = place_read s x at in
      let is : IsPlaceOf (s ∷ []) x =
      record { section = record { index = 0; kept = s; is_kept = refl; now = now; is_now = now_at }; same = same } in
      (omega arith, omega arith, (goes_so p (target_at x) (OneSection s) (stands_at p (s ∷ []) (target_at x) x x is is refl refl refl), tt))

  -- nowhere, where no note moves
  all_stay : (notes : List KeptSection) → ((k : KeptSection) → Has k notes → IsPlannedAt image moved k) → list_any (is_moved moved) notes ≡ false
      → AllByRecursion (IsAtItsAddress again) notes
  all_stay [] planned none = tt
  all_stay (k ∷ ks) planned none =
      let no = or_parts (is_moved moved k) (list_any (is_moved moved) ks) none in
      let at = planned k (has_here k ks) in
      let (now, now_at, same) = place_read k at.place at.is_there in (
        (now, now_at, ap (λ (x : Place). x.sh_addr) same ∙ at.stays no.0),
        all_stay ks (λ l here. planned l (has_there l k ks here)) no.1,
      )

  -- to some of the notes
  all_go : (p : SegmentHeader) (notes : List KeptSection) (ts : List Target) → AllByRecursion (Stands p notes) ts
      → AllByRecursion (IsSameHeader again p (Notes notes)) (map (anchored_to image.form p) ts)
  all_go p notes [] all = tt
  all_go p notes (t ∷ ts) all = (goes_so p t (Notes notes) (inr all.0), all_go p notes ts all.1)

  notes_go : (p : SegmentHeader) (notes : List KeptSection) (ts : List Target) → 1 ≤ length ts → length ts ≤ 2
      → AllByRecursion (Stands p notes) ts → Become p (Notes notes) (written_by image moved p p ts)
  notes_go p notes [] some few all = absurd (omega (arith, some))
  notes_go p notes (t ∷ ts) some few all =
      (omega arith, omega (arith, few, length-map ts (anchored_to image.form p)), all_go p notes (t ∷ ts) all)

  notes_by : (p : SegmentHeader) (notes : List KeptSection) → ((k : KeptSection) → Has k notes → IsPlannedAt image moved k)
      → (b : Bool) → list_any (is_moved moved) notes ≡ b
      → Become p (Notes notes) (written_by image moved p p (if b then targets_over (places_of_kept (places r moved) (staying_notes moved notes))
      ++ targets_over (places_of_kept (places r moved) (moved_notes moved notes)) else []))
  notes_by p notes planned false none =
      (omega arith, omega arith, (stays_so p (Notes notes) (inl (refl, all_stay notes planned none)), tt))
  notes_by p notes planned true some =
      let stay : List Place = places_of_kept (places r moved) (staying_notes moved notes) in
      let move : List Place = places_of_kept (places r moved) (moved_notes moved notes) in
      let found = any-at (is_moved moved) notes some in
      let at = planned found.element found.here in
      let there : Has at.place move = filter_map-from (λ (k : KeptSection). slice_get (places r moved) k.position) (moved_notes moved notes)
      found.element at.place (filter-from (is_moved moved) notes found.element found.here found.passes) at.is_there in
      let few : length (targets_over stay ++ targets_over move) ≤ 2 =
      omega (arith, length-append (targets_over stay) (targets_over move), length-over stay, length-over move) in
      let one : 1 ≤ length (targets_over stay ++ targets_over move) =
      omega (arith, length-append (targets_over stay) (targets_over move), some_over move at.place there) in
      let staying = over_targets p notes stay (place_of_one notes (staying_notes moved notes)
      (λ k here. (filter-at (λ (s : KeptSection). not (is_moved moved s)) notes k here).0)) in
      let moving = over_targets p notes move (place_of_one notes (moved_notes moved notes)
      (λ k here. (filter-at (is_moved moved) notes k here).0)) in
      notes_go p notes (targets_over stay ++ targets_over move) one few
      (all_append (Stands p notes) (targets_over stay) (targets_over move) staying moving)

  -- a program header for the table is written as long as that
  abbrev TableFits : Type 0
  TableFits = (p : SegmentHeader) → Has p image.segments → written_from r moved p ≡ with_table_size r moved p ∷ []
      → (p.p_type == PT_PHDR) ≡ true → length again.segments ≡ header_count r moved

  module _ (planned : (k : KeptSection) → Has k (kept_sections image) → IsPlannedAt image moved k) (fits : TableFits) where
    table_stands : (p : SegmentHeader) → length again.segments ≡ header_count r moved → StandsAtTable again p (with_table_size r moved p)
    table_stands p many = record {
      same = refl;
      whole =
          ap (λ (n : ℕ). n * segment_header_size image.form) (sym many)
          ∙ ap (λ (form : Form). length again.segments * segment_header_size form) (sym same_form);
    }

    become : (p : SegmentHeader) → Has p image.segments → (anchor : Anchor) → anchor_of r.read r.image p ≡ anchor
        → AreAmong (kept_sections image) (p.p_type == PT_PHDR) anchor
        → Become p anchor (written_by image moved p (table_by image moved p anchor) (targets_by image moved anchor))
    become p here Itself is among = (omega arith, omega arith, (stays_so p Itself refl, tt))
    become p here HeaderTable is among =
        let written : written_from r moved p ≡ with_table_size r moved p ∷ [] =
        written_is image moved p
        ∙ ap (λ (l : Anchor). written_by image moved p (table_by image moved p l) (targets_by image moved l)) is in
        let stands = table_stands p (fits p here written (table_among among)) in
        (omega arith, omega arith, (record { type = refl; flags = refl; align = refl; place = stands }, tt))
    become p here (OneSection s) is among =
        let at = planned s (one_among among) in
        subst (λ (o : Option Place). Become p (OneSection s) (written_by image moved p p (map target_at (cons_option o [])))) (sym at.is_there)
        (one_by p s at.place at.is_there)
    become p here (Notes notes) is among =
        notes_by p notes (λ k k_here. planned k (notes_among among k k_here)) (list_any (is_moved moved) notes) refl

    headers_of : (p : SegmentHeader) → Has p image.segments → AreHeadersOf again p (anchor_of r.read r.image p) (written_from r moved p)
    headers_of p here =
        let made = subst (λ (qs : List SegmentHeader). Become p (anchor_of r.read r.image p) qs) (sym (written_is image moved p))
        (become p here (anchor_of r.read r.image p) refl (anchors_among r p)) in
        record {
          loaded = λ h.
              written_is image moved p
              ∙ ap (λ (l : Anchor). written_by image moved p (table_by image moved p l) (targets_by image moved l)) (load_anchor r moved p h);
          some = made.0;
          few = made.1;
          each = made.2;
        }

    -- all program headers, in their order
    pub in_order : (ps : List SegmentHeader) → ((p : SegmentHeader) → Has p ps → Has p image.segments)
        → AreHeadersInOrder r.read image again ps (flat_map (written_from r moved) ps)
    in_order [] among = refl
    in_order (p ∷ ps) among = (
      written_from r moved p,
      flat_map (written_from r moved) ps,
      refl,
      headers_of p (among p (has_here p ps)),
      in_order ps (λ q here. among q (has_there q p ps here)),
    )
