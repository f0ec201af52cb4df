-- Every byte of a loaded segment that isn't written anew keeps its value and its address in a written file.
use Rattle.std.proofs.Common.{◌≡◌, ◌≤◌, ◌<◌, ℕ, zero, suc, ◌+◌, ◌-◌, Bool, true, false, eqb, List, [], ◌∷◌, ◌++◌, map, length, drop, get_or, refl, sym, ap, ◌∙◌, subst, inl, inr, Some, arith}
use Rattle.std.specs.Prelude.{◌==◌, ◌&&◌, ◌||◌, not, nat_le, nat_lt, ◌*◌, slice_index, if◌then◌else◌, filter}
use Rattle.std.specs.List.{flat_map, list_all, list_any, slice_get}
use Rattle.std.proofs.lemmas.Bool.{and_from, and_parts, cases_Bool, cond-true, eq-eqb, eqb-true, false≢true, leb-true, ltb-true, not_from_false, or_parts}
use Rattle.std.proofs.lemmas.Bool.Decides.{nat_tests}
use Rattle.std.proofs.lemmas.List.{get_or-drop, get_or-take}
use Rattle.std.proofs.lemmas.List.Folds.{list_any-append}
use Rattle.std.proofs.lemmas.Option.{none-some, same_Some, slice_get-get_or, slice_get_within}
use Rattle.patch_bytes.specs.Number.{field}
use Rattle.patch_bytes.proofs.NumberLemmas.{length-field}
use Rattle.byte_store.specs.Laid.{Patch}
use Rattle.elf_format.specs.declared.range.Range.{Range}
use Rattle.elf_format.specs.declared.records.SegmentHeader.{SegmentHeader}
use Rattle.elf_format.specs.declared.constants.TheConstants.{SHF_ALLOC, SHT_NOBITS, SHT_NULL}
use Rattle.elf_format.specs.Image.{ImageSection}
use Rattle.elf_format.specs.File.{is_loaded, loads_of}
use Rattle.elf_format.specs.Places.{Place, file_range, is_set, occupies_file, occupies_memory}
use Rattle.elf_format.specs.Placement.{addresses_apart, ends_by, file_part, shows_at}
use Rattle.elf_format.specs.Ranges.{all_apart, apart, end_of, lies_in, range}
use Rattle.elf_format.specs.Records.{file_header_size, section_header_size}
use Rattle.elf_format.specs.Views.{byte_at}
use Rattle.elf_format.proofs.ForCallers.Placed.{held_ranges_are_seen}
use Rattle.elf_layout_plan.specs.Spelled.{spelled_file_header, spelled_section_header, spelled_segment_header}
use Rattle.elf_layout_plan.specs.FilePlaced.{written_headers, written_size, written_table}
use Rattle.elf_layout_plan.specs.Anchors.{is_loaded_section}
use Rattle.elf_image.specs.Kept.{KeptSection, image_at_read, kept_sections, place_at_read}
use Rattle.elf_layout_plan.specs.Memory.{Resized}
use Rattle.elf_layout_plan.specs.Plan.{Plan, plan_for, resized}
use Rattle.elf_layout_plan.specs.Written.{written_segments}
use Rattle.elf_layout_plan.proofs.ForCallers.ApartLists.{Each, all-at, any-from, each-append, each-at}
use Rattle.elf_layout_plan.proofs.ForCallers.PlacedLists.{Has, any-from as any-has, filter-at, has_cases, has_none, slice_get-at}
use Rattle.elf_layout_plan.proofs.ForCallers.PlacedPlans.{plans_are_placed}
use Rattle.elf_layout_plan.proofs.ForCallers.PlacedRanges.{lies_in-from}
use Rattle.elf_layout_plan.proofs.ForCallers.PlacedRead.{reads_placed}
use Rattle.elf_layout_plan.proofs.ForCallers.PlacedSegments.{load_written}
use Rattle.elf_write_spec.specs.Base.{base, base_byte, does_byte_stay, has_position, is_data, is_rewritten, old_places}
use Rattle.elf_write_spec.specs.Headers.{written_header}
use Rattle.elf_write_spec.specs.Laws.{WrittenFilesKeepOthers}
use Rattle.elf_write_spec.specs.Stays.{new_places_from, written_places}
use Rattle.elf_write_spec.specs.Output.{IsPlannedOutput, Output, patch, patches, patches_of_section, patches_of_sections, written_bytes}
use Rattle.elf_write_spec.proofs.ApartInFile.{stands_behind}
use Rattle.elf_write_spec.proofs.Laying.{AreApart, field-laid_apart, field-values, range_of}
use Rattle.elf_write_spec.proofs.Patches.{AreSized, are_sized, first_range, length-written, patches_lie_in_base, second_range, third_range}
use Rattle.elf_write_spec.proofs.WholeFacts.{SectionAt, lengths, read_facts, section_at}
use Rattle.elf_write_spec.proofs.NumberedSections.{kept_as}
use Rattle.elf_format.proofs.ForCallers.{apart-before, apart-from_empty}

-- ## One place

-- a range that hasn't a position is apart from it
apart_from : (position : ℕ) (x : Range) → has_position position x ≡ false → apart (range position 1) x ≡ true
apart_from position x h = grind (arith, nat_tests)

-- the field of one place has the byte there
field-one : (xs : List ℕ) (pos : ℕ) → pos < length xs → slice_get (field 1 pos xs) 0 ≡ slice_get xs pos
field-one xs pos less =
    let one : length (field 1 pos xs) ≡ 1 = length-field 1 pos xs (omega arith) in
    let there : pos + 0 ≡ pos = omega arith in
    slice_get-get_or (field 1 pos xs) 0 0 (omega (arith, one))
    ∙ ap Some (get_or-take 1 (drop pos xs) 0 0 (omega arith) ∙ get_or-drop pos xs 0 0 ∙ ap (λ (k : ℕ). get_or xs k 0) there)
    ∙ sym (slice_get-get_or xs pos 0 less)

-- ## The patches of sections

-- what holds of the places of sections that are written holds of their patches
patches_each : (P : Range → Type 0) (r : Resized) (ks : List KeptSection) (ps : List Place) (cs : List (List ℕ)) → AreSized ps cs
    → ((i : ℕ) (k : KeptSection) (p : Place) → slice_get ks i ≡ Some k → slice_get ps i ≡ Some p → occupies_file p ≡ true → is_data r.read k ≡ false
    → P (file_range p))
    → Each (λ q. P (range_of q)) (patches_of_sections r ks ps cs)
patches_each P r [] ps cs sized h = tt
patches_each P r (k ∷ ks) [] cs sized h = tt
patches_each P r (k ∷ ks) (p ∷ ps) [] sized h = tt
patches_each P r (k ∷ ks) (p ∷ ps) (bytes ∷ cs) sized h =
    each-append (λ q. P (range_of q)) (patches_of_section r k p bytes) (patches_of_sections r ks ps cs)
    (by_tests (occupies_file p) (is_data r.read k) refl refl)
    (patches_each P r ks ps cs (λ i. sized (suc i)) (λ i. h (suc i)))
  where
    same_range : occupies_file p ≡ true → range_of (patch p.sh_offset bytes) ≡ file_range p
    same_range e = ap (range p.sh_offset) (sized zero p bytes refl refl ∙ cond-true (occupies_file p) p.sh_size 0 e)

    by_tests : (a d : Bool) → occupies_file p ≡ a → is_data r.read k ≡ d
        → Each (λ q. P (range_of q)) (if a && not d then patch p.sh_offset bytes ∷ [] else [])
    by_tests true false e f = (subst P (sym (same_range e)) (h zero k p refl refl e f), tt)
    by_tests true true e f = tt
    by_tests false d e f = tt

-- a place of a section that is written anew is among the new places
new_place : (test : Range → Bool) (r : Resized) (ks : List KeptSection) (ps : List Place) → list_any test (new_places_from r.read ks ps) ≡ false
    → (i : ℕ) (k : KeptSection) (p : Place) → slice_get ks i ≡ Some k → slice_get ps i ≡ Some p → is_rewritten r.read k ≡ true
    → test (file_range p) ≡ false
new_place test r [] ps none i k p at_k at_p is = absurd (none-some k at_k)
new_place test r (x ∷ ks) [] none i k p at_k at_p is = absurd (none-some p at_p)
new_place test r (x ∷ ks) (y ∷ ps) none zero k p at_k at_p is =
    let was : is_rewritten r.read x ≡ true = ap (is_rewritten r.read) (same_Some x k at_k) ∙ is in
    ap (λ (q : Place). test (file_range q)) (sym (same_Some y p at_p)) ∙ first_none (is_rewritten r.read x) was none
  where
    first_none : (b : Bool) → b ≡ true
        → list_any test (elim b as (λ _. List Range) [ false ↦ new_places_from r.read ks ps | _ ↦ file_range y ∷ new_places_from r.read ks ps ]) ≡ false
        → test (file_range y) ≡ false
    first_none true e h = (or_parts (test (file_range y)) (list_any test (new_places_from r.read ks ps)) h).0
    first_none false e h = absurd (false≢true e)
new_place test r (x ∷ ks) (y ∷ ps) none (suc i) k p at_k at_p is = new_place test r ks ps (rest_none (is_rewritten r.read x) none) i k p at_k at_p is
  where
    rest_none : (b : Bool)
        → list_any test (elim b as (λ _. List Range) [ false ↦ new_places_from r.read ks ps | _ ↦ file_range y ∷ new_places_from r.read ks ps ]) ≡ false
        → list_any test (new_places_from r.read ks ps) ≡ false
    rest_none true h = (or_parts (test (file_range y)) (list_any test (new_places_from r.read ks ps)) h).1
    rest_none false h = h

-- ## The segment

-- a loaded segment of the image is written
record LoadNow (w : Output) (p : SegmentHeader) : Type 0 where
  index : ℕ
  here : slice_get (loads_of w.plan.segments) index ≡ Some p

-- where an element is
found_at : {A : Type 0} (xs : List A) (x : A) → Has x xs → (i : ℕ) × (slice_get xs i ≡ Some x)
found_at [] x h = absurd (has_none x h)
found_at (y ∷ ys) x h = elim (has_cases x y ys h) [
  | inl same ↦ (zero, ap Some same)
  | inr later ↦ let (i, at) = found_at ys x later in (suc i, at)
]

-- in lists that are one
there_too : (segments others : List SegmentHeader) (i : ℕ) (q : SegmentHeader) → segments ≡ others → slice_get (loads_of others) i ≡ Some q
    → slice_get (loads_of segments) i ≡ Some q
there_too segments others i q same at = subst (λ (l : List SegmentHeader). slice_get (loads_of l) i ≡ Some q) (sym same) at

load_now : (w : Output) → IsPlannedOutput w → (i : ℕ) (p : SegmentHeader) → slice_get (loads_of w.image.segments) i ≡ Some p → LoadNow w p
unfolding plan_for
load_now w is i p at =
    let r : Resized = resized w.image in
    let moved : List ℕ = is.planned.moved in
    let here : Has p (loads_of r.image.segments) = slice_get-at (loads_of r.image.segments) i p at in
    let back = filter-at is_loaded r.image.segments p here in
    let any = any-has is_loaded r.image.segments p back.0 back.1 in
    let segments : w.plan.segments ≡ written_segments r moved = ap (λ (l : Plan). l.segments) is.planned.follows in
    let (j, at_j) = found_at (loads_of (written_segments r moved)) p (load_written r moved (reads_placed w.image is.edited) any p here) in
    record { index = j; here = there_too w.plan.segments (written_segments r moved) j p segments at_j }

-- ## The sections

-- a section's place is as much of the file and of memory as the section was
pub same_kind : (w : Output) → IsPlannedOutput w → (j : ℕ) (k : KeptSection) (x : Place) → slice_get (kept_sections w.image) j ≡ Some k
    → slice_get w.plan.places j ≡ Some x
    → (occupies_memory x ≡ is_loaded_section k.section) × (occupies_file x ≡ occupies_file (place_at_read k.section))
same_kind w is j k x at_k at_x =
    let f = read_facts w is in
    let l = lengths w is f in
    let below = slice_get_within w.plan.places j x at_x in
    let at : SectionAt w f.parts j = section_at w is f j (omega (arith, below, l.places)) in
    let same_place : at.place ≡ x = same_Some at.place x (sym at.is_place ∙ at_x) in
    let same_kept : at.section ≡ k.section = ap (λ (y : KeptSection). y.section) (same_Some (kept_as j at.number at.section) k (sym at.is_kept ∙ at_k)) in
    let type : x.sh_type ≡ k.section.sh_type =
    ap (λ (y : Place). y.sh_type) (sym same_place) ∙ at.place_type
    ∙ sym (ap (λ (y : ImageSection). y.sh_type) at.of_old.fields) ∙ ap (λ (y : ImageSection). y.sh_type) same_kept in
    let flags : x.sh_flags ≡ k.section.sh_flags =
    ap (λ (y : Place). y.sh_flags) (sym same_place) ∙ at.place_flags
    ∙ sym (ap (λ (y : ImageSection). y.sh_flags) at.of_old.fields) ∙ ap (λ (y : ImageSection). y.sh_flags) same_kept in
    (ap (is_set SHF_ALLOC) flags, ap (λ (n : ℕ). not (n == SHT_NULL) && not (n == SHT_NOBITS)) type)

-- ## The byte

module _ (w : Output) (is : IsPlannedOutput w) (i : ℕ) (p : SegmentHeader) (position : ℕ)
    (at : slice_get (loads_of w.image.segments) i ≡ Some p) (inside : has_position position (file_part p) ≡ true)
    (other : list_any (has_position position) (written_places (image_at_read w.image) w.image (written_headers (resized w.image) w.plan) w.plan.places) ≡ false) where
  abbrev r : Resized
  r = resized w.image

  abbrev one : Range
  one = range position 1

  now : LoadNow w p
  now = load_now w is i p at

  begins : p.p_offset ≤ position
  begins = leb-true p.p_offset position (and_parts (nat_le p.p_offset position) (nat_lt position (p.p_offset + p.p_filesz)) inside).0

  ends : position < p.p_offset + p.p_filesz
  ends = ltb-true position (p.p_offset + p.p_filesz) (and_parts (nat_le p.p_offset position) (nat_lt position (p.p_offset + p.p_filesz)) inside).1

  in_source : position < length w.image.source
  in_source =
      let end : p.p_offset + p.p_filesz ≤ length w.image.source =
      (reads_placed w.image is.edited).in_file p (slice_get-at (loads_of r.image.segments) i p at) in
      omega (arith, ends, end)

  in_file : position < length (written_bytes w)
  in_file =
      let both = and_parts (list_all (λ s. ends_by (written_size r w.plan) (file_range s)) (filter occupies_file w.plan.places))
      (list_all (λ q. ends_by (written_size r w.plan) (file_part q)) (loads_of w.plan.segments))
      (plans_are_placed w.image w.plan is.edited is.planned).in_file in
      let end : p.p_offset + p.p_filesz ≤ written_size r w.plan =
      leb-true (end_of (file_part p)) (written_size r w.plan)
      (each-at (λ q. ends_by (written_size r w.plan) (file_part q) ≡ true) (loads_of w.plan.segments)
      (all-at (λ q. ends_by (written_size r w.plan) (file_part q)) (loads_of w.plan.segments) both.1) now.index p now.here) in
      omega (arith, ends, end, length-written w is)

  -- ## It isn't written anew

  other_parts : (list_any (has_position position) (old_places r.read r.image) ≡ false)
      × (list_any (has_position position) (written_headers r w.plan) ≡ false)
      × (list_any (has_position position) (new_places_from r.read (kept_sections w.image) w.plan.places) ≡ false)
  other_parts =
      let new : List Range = new_places_from r.read (kept_sections w.image) w.plan.places in
      let outer = or_parts (list_any (has_position position) (old_places r.read r.image ++ written_headers r w.plan)) (list_any (has_position position) new)
      (sym (list_any-append (has_position position) (old_places r.read r.image ++ written_headers r w.plan) new) ∙ other) in
      let inner = or_parts (list_any (has_position position) (old_places r.read r.image)) (list_any (has_position position) (written_headers r w.plan))
      (sym (list_any-append (has_position position) (old_places r.read r.image) (written_headers r w.plan)) ∙ outer.0) in
      (inner.0, inner.1, outer.1)

  -- a section whose bytes are written
  section_apart : (j : ℕ) (k : KeptSection) (x : Place) → slice_get (kept_sections w.image) j ≡ Some k → slice_get w.plan.places j ≡ Some x
      → occupies_file x ≡ true → is_data r.read k ≡ false → apart one (file_range x) ≡ true
  section_apart j k x at_k at_x there no_data = elim (cases_Bool (occupies_memory x)) [
    | inr unloaded ↦ elim (cases_Bool (eqb x.sh_size 0)) [
      | inl empty ↦ apart-from_empty one (file_range x) (eqb-true x.sh_size 0 empty)
      | inr some ↦
          let behind : p.p_offset + p.p_filesz ≤ x.sh_offset =
          (stands_behind w.image w.plan is.edited is.planned).sections now.index j p x now.here at_x unloaded there some in
          apart-before one (file_range x) (omega (arith, ends, behind))
    ]
    | inl takes ↦
        let same = same_kind w is j k x at_k at_x in
        let rewritten = and_from (is_loaded_section k.section && occupies_file (place_at_read k.section)) (not (is_data r.read k))
        (and_from (is_loaded_section k.section) (occupies_file (place_at_read k.section)) (sym same.0 ∙ takes) (sym same.1 ∙ there))
        (not_from_false (is_data r.read k) no_data) in
        apart_from position (file_range x)
        (new_place (has_position position) r (kept_sections w.image) w.plan.places other_parts.2 j k x at_k at_x rewritten)
  ]

  header_apart : (x : Range) → has_position position x ≡ false → (q : Patch) → range_of q ≡ x → AreApart one (range_of q)
  header_apart x none q same = subst (λ (y : Range). AreApart one y) (sym same) (apart_from position x none)

  behind_apart : (x : Range) → x.start ≡ w.plan.e_shoff → (q : Patch) → range_of q ≡ x → AreApart one (range_of q)
  behind_apart x start q same =
      let behind : p.p_offset + p.p_filesz ≤ w.plan.e_shoff =
      (stands_behind w.image w.plan is.edited is.planned).table now.index p now.here in
      subst (λ (y : Range). AreApart one y) (sym same) (apart-before one x (omega (arith, ends, behind, start)))

  patches_apart : Each (λ q. AreApart one (range_of q)) (patches w)
  patches_apart =
      let start : Range = range 0 (file_header_size w.image.form) in
      let table : Range = written_table r w.plan in
      let sections : Range = range w.plan.e_shoff (length w.plan.places * section_header_size w.image.form) in
      let first : Patch = patch 0 (spelled_file_header w.image.form (written_header w.image w.plan)) in
      let second : Patch = patch w.plan.e_phoff (flat_map (spelled_segment_header w.image.form) w.plan.segments) in
      let third : Patch = patch w.plan.e_shoff (flat_map (spelled_section_header w.image.form) w.headers) in
      let both = or_parts (has_position position start) (has_position position table || false) other_parts.1 in (
        header_apart start both.0 first (first_range w is),
        (
          header_apart table (or_parts (has_position position table) false both.1).0 second (second_range w is),
          (
            behind_apart sections refl third (third_range w is),
            patches_each (AreApart one) r (kept_sections w.image) w.plan.places w.contents (are_sized w is) section_apart,
          ),
        ),
      )

  -- ## What was there is still there

  stays : does_byte_stay r position ≡ true
  stays = and_from (list_any (λ q. has_position position (file_part q)) (loads_of r.image.segments))
      (not (list_any (has_position position) (old_places r.read r.image)))
      (any-from (λ q. has_position position (file_part q)) (loads_of r.image.segments) i p at inside)
      (not_from_false (list_any (has_position position) (old_places r.read r.image)) other_parts.0)

  base_there : (k : ℕ) → position ≡ k → base_byte r k ≡ slice_index w.image.source k
  base_there k same = subst (λ (n : ℕ). base_byte r n ≡ slice_index w.image.source n) same
      (cond-true (does_byte_stay r position) (slice_index w.image.source position) 0 stays)

  same_byte : field 1 position (written_bytes w) ≡ field 1 position w.image.source
  unfolding written_bytes base
  same_byte =
      field-laid_apart one (patches w) (base r (written_size r w.plan)) (patches_lie_in_base w is) patches_apart
      ∙ field-values (base_byte r) (written_size r w.plan) 1 position w.image.source (omega (arith, in_file, length-written w is))
      (omega (arith, in_source))
      (λ k low high. base_there k (omega arith))

  abbrev address : ℕ
  address = p.p_vaddr + (position - p.p_offset)

  shown_by : shows_at p one address ≡ true
  shown_by = and_from (lies_in one (file_part p)) (eqb (address + p.p_offset) (p.p_vaddr + position))
      (lies_in-from one (file_part p) (omega (arith, begins)) (omega (arith, ends)))
      (eq-eqb (address + p.p_offset) (p.p_vaddr + position) (omega (arith, begins)))

  seen : byte_at w.plan.segments (written_bytes w) address ≡ slice_get w.image.source position
  seen =
      let file : List ℕ = written_bytes w in
      let x : ℕ = get_or w.image.source position 0 in
      let was : slice_get w.image.source position ≡ Some x = slice_get-get_or w.image.source position 0 in_source in
      let there : slice_get (field 1 position file) 0 ≡ Some x =
      ap (λ (l : List ℕ). slice_get l 0) same_byte ∙ field-one w.image.source position in_source ∙ was in
      let placed = plans_are_placed w.image w.plan is.edited is.planned in
      let any = any-from (λ q. shows_at q one address) (loads_of w.plan.segments) now.index p now.here shown_by in
      let apart_there = (and_parts (addresses_apart w.plan.segments) (all_apart (map file_part (loads_of w.plan.segments))) placed.apart).0 in
      let first_place : address ≡ address + 0 = omega arith in
      ap (λ (a : ℕ). byte_at w.plan.segments file a) first_place
      ∙ held_ranges_are_seen file w.plan.segments placed.fit apart_there one address any 0 x there
      ∙ sym was

pub written_files_keep_others : WrittenFilesKeepOthers
written_files_keep_others w is i p position at inside other = seen w is i p position at inside other
