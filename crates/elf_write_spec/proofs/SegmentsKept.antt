-- The program headers of a written file are those of the image, in their order, and loaded ones that were added.
use Rattle.std.proofs.Common.{◌≡◌, ◌≢◌, ◌⊎◌, ℕ, ◌+◌, ◌%◌, Bool, true, false, List, [], ◌∷◌, ◌++◌, length, refl, sym, ap, ◌∙◌, subst, inl, inr, Some, arith}
use Rattle.std.specs.Prelude.{◌&&◌, ◌||◌, ◌==◌, nat_le, not}
use Rattle.std.specs.List.{AllByRecursion, flat_map, list_any, slice_get}
use Rattle.std.proofs.lemmas.Bool.{and_from, and_parts, both_ways, eq-eqb, le-leb, not-true, or_cases}
use Rattle.std.proofs.lemmas.List.{length-append, length-map}
use Rattle.std.proofs.lemmas.Option.{same_Some}
use Rattle.elf_format.specs.declared.constants.TheConstants.{PT_PHDR}
use Rattle.elf_format.specs.declared.records.SegmentHeader.{SegmentHeader}
use Rattle.elf_format.specs.File.{is_loaded, loads_of}
use Rattle.elf_format.specs.Image.{Image, ImageSection}
use Rattle.elf_format.specs.Placement.{file_part, holds, sections_held, something_loaded, stored_apart}
use Rattle.elf_format.specs.Places.{Place, file_range, occupies_memory}
use Rattle.elf_format.specs.Ranges.{lies_in}
use Rattle.elf_image.specs.Edited.{IsEdited}
use Rattle.elf_image.specs.Kept.{KeptSection, image_at_read, kept_sections, place_at_read}
use Rattle.elf_image.specs.Segments.{loads_end}
use Rattle.elf_layout_plan.specs.Added.{AddedLoad, Slot, added_loads, alignment_of, header_count}
use Rattle.elf_layout_plan.specs.Anchors.{is_loaded_section}
use Rattle.elf_layout_plan.specs.FilePlaced.{written_headers, written_table}
use Rattle.elf_layout_plan.specs.Memory.{Resized, SizedSection, sized_sections}
use Rattle.elf_layout_plan.specs.Plan.{IsPlan, Plan, plan_for, resized}
use Rattle.elf_layout_plan.specs.Rounds.{added_flags, flags_for, headers_needed}
use Rattle.elf_layout_plan.specs.Standing.{place_in, places, stands_at}
use Rattle.elf_layout_plan.specs.Written.{behind_last_load, with_table_size, written_from, written_segments}
use Rattle.elf_layout_plan.proofs.ForCallers.ApartLists.{Each, at-map, each-at}
use Rattle.elf_layout_plan.proofs.ForCallers.ApartRead.{edited_facts}
use Rattle.elf_layout_plan.proofs.ForCallers.ApartSections.{at-sized, sized_of}
use Rattle.elf_layout_plan.proofs.ForCallers.PlacedAdded.{IsMovedTo, IsSlotOf, is_added, length-added}
use Rattle.elf_layout_plan.proofs.ForCallers.PlacedLists.{Has, any-at, any-from, filter-at, flat_map-from, has_here, slice_get-at}
use Rattle.elf_layout_plan.proofs.ForCallers.PlacedPlaces.{same_memory, stands}
use Rattle.elf_layout_plan.proofs.ForCallers.PlacedPlans.{plans_are_placed}
use Rattle.elf_layout_plan.proofs.ForCallers.PlacedSections.{at_position}
use Rattle.elf_layout_plan.proofs.ForCallers.PlacedWritten.{headers_added}
use Rattle.elf_layout_plan.proofs.ForCallers.UnloadedParts.{unloaded_parts}
use Rattle.elf_write_spec.specs.KeptSegments.{AreBehind, AreHeadersInOrder, AreSegmentsKept, IsAddedLoad, IsInAdded}
use Rattle.elf_write_spec.specs.WrittenFile.{places_in}
use Rattle.elf_write_spec.proofs.AddedSegments.{IsSlotFor, added_each, added_for, added_ordered}
use Rattle.elf_write_spec.proofs.FollowingHeaders.{in_order}
use Rattle.elf_write_spec.proofs.PlannedSections.{IsPlannedAt, place_at, planned_at}
use Rattle.elf_write_spec.proofs.WholeLists.{has_at}
use Rattle.elf_write_spec.proofs.WrittenHeaders.{length-all}

-- ## Headers put behind the last one that is loaded

-- a list with some put in, or none of them where none of it is loaded
record IsPut (more ps all : List SegmentHeader) : Type 0 where
  front : List SegmentHeader
  added : List SegmentHeader
  behind : List SegmentHeader
  are : all ≡ front ++ (added ++ behind)
  whole : front ++ behind ≡ ps
  last : list_any is_loaded behind ≡ false
  which : (added ≡ more) ⊎ ((added ≡ []) × (list_any is_loaded ps ≡ false))

put_on : (more : List SegmentHeader) (p : SegmentHeader) (ps all : List SegmentHeader) → IsPut more ps all
    → (list_any is_loaded ps ≡ false → list_any is_loaded (p ∷ ps) ≡ false) → IsPut more (p ∷ ps) (p ∷ all)
put_on more p ps all rest none = record {
  front = p ∷ rest.front;
  added = rest.added;
  behind = rest.behind;
  are = ap (λ (l : List SegmentHeader). p ∷ l) rest.are;
  whole = ap (λ (l : List SegmentHeader). p ∷ l) rest.whole;
  last = rest.last;
  which = elim rest.which [ inl same ↦ inl same | inr nothing ↦ inr (nothing.0, none nothing.1) ];
}

put_by : (more : List SegmentHeader) (p : SegmentHeader) (ps : List SegmentHeader) → IsPut more ps (behind_last_load more ps)
    → (a : Bool) → is_loaded p ≡ a → (b : Bool) → list_any is_loaded ps ≡ b
    → IsPut more (p ∷ ps) (elim (a && not b) as (λ _. List SegmentHeader) [ true ↦ p ∷ more ++ ps | _ ↦ p ∷ behind_last_load more ps ])
put_by more p ps rest true loaded false later = record {
  front = p ∷ [];
  added = more;
  behind = ps;
  are = refl;
  whole = refl;
  last = later;
  which = inl refl;
}
put_by more p ps rest true loaded true later =
    put_on more p ps (behind_last_load more ps) rest (λ none. absurd (both_ways (list_any is_loaded ps) none later))
put_by more p ps rest false loaded b later =
    put_on more p ps (behind_last_load more ps) rest (λ none. ap (λ (c : Bool). c || list_any is_loaded ps) loaded ∙ none)

put : (more ps : List SegmentHeader) → IsPut more ps (behind_last_load more ps)
unfolding behind_last_load
put more [] = record { front = []; added = []; behind = []; are = refl; whole = refl; last = refl; which = inr (refl, refl) }
put more (p ∷ ps) = put_by more p ps (put more ps) (is_loaded p) refl (list_any is_loaded ps) refl

-- ## A section in an added segment

-- the segment has the bytes of a section at its slot
holds_slot : (load : AddedLoad) (t : Slot) (s : SizedSection) → IsSlotOf load t → t.size ≡ s.size
    → holds load.header (stands_at s t.offset t.address) ≡ true
holds_slot load t s is size =
    let q : SegmentHeader = load.header in
    let x : Place = stands_at s t.offset t.address in
    and_from (lies_in (file_range x) (file_part q)) ((t.address + q.p_offset) == (q.p_vaddr + t.offset))
    (and_from (nat_le q.p_offset t.offset) (nat_le (t.offset + s.size) (q.p_offset + q.p_filesz))
    (le-leb q.p_offset t.offset is.begins)
    (le-leb (t.offset + s.size) (q.p_offset + q.p_filesz) (omega (arith, is.ends, size))))
    (eq-eqb (t.address + q.p_offset) (q.p_vaddr + t.offset) is.distance)

module _ (image again : Image) (plan : Plan) (edited : IsEdited image) (planned : IsPlan (resized image) plan)
    (same_segments : again.segments ≡ plan.segments) (same_form : again.form ≡ image.form) (same_places : places_in again ≡ plan.places) where
  abbrev r : Resized
  r = resized image

  abbrev moved : List ℕ
  moved = planned.moved

  planned_segments : plan.segments ≡ written_segments r moved
  unfolding plan_for
  planned_segments = ap (λ (l : Plan). l.segments) planned.follows

  planned_places : plan.places ≡ places r moved
  unfolding plan_for
  planned_places = ap (λ (l : Plan). l.places) planned.follows

  -- ## Added program headers among the others

  abbrev base : List SegmentHeader
  base = flat_map (written_from r moved) image.segments

  written_is : written_segments r moved ≡ behind_last_load (headers_added r moved) base
  unfolding written_segments
  written_is = refl

  put_in : IsPut (headers_added r moved) base (behind_last_load (headers_added r moved) base)
  put_in = put (headers_added r moved) base

  of_added : (P : List SegmentHeader → Type 0) → P (headers_added r moved) → P [] → P put_in.added
  of_added P added none = elim put_in.which [
    | inl same ↦ subst P (sym same) added
    | inr nothing ↦ subst P (sym nothing.0) none
  ]

  bare_base : put_in.added ≡ [] → plan.segments ≡ base
  bare_base none =
      planned_segments ∙ written_is ∙ put_in.are
      ∙ ap (λ (l : List SegmentHeader). put_in.front ++ (l ++ put_in.behind)) none ∙ put_in.whole

  -- ## Loaded sections that moved

  -- where a section is in memory some segment is loaded
  some_loaded : (i : ℕ) (x : Place) → slice_get plan.places i ≡ Some x → occupies_memory x ≡ true → list_any is_loaded plan.segments ≡ true
  some_loaded i x at takes =
      let held : Bool = sections_held plan.segments plan.places in
      let something : Bool = something_loaded plan.segments plan.places in
      let outer = and_parts (held && something) (stored_apart (written_headers r plan) plan.places)
      (plans_are_placed image plan edited planned).loaded in
      let inner = and_parts held something outer.0 in
      let any : list_any occupies_memory plan.places ≡ true =
      any-from occupies_memory plan.places x (slice_get-at plan.places i x at) takes in
      elim (or_cases (not (list_any occupies_memory plan.places)) (list_any is_loaded plan.segments) inner.1) [
        | inl none ↦
            absurd (both_ways (list_any occupies_memory plan.places) (not-true (list_any occupies_memory plan.places) none) any)
        | inr some ↦ some
      ]

  all_added : (i : ℕ) (x : Place) → slice_get plan.places i ≡ Some x → occupies_memory x ≡ true → put_in.added ≡ headers_added r moved
  all_added i x at takes = elim put_in.which [
    | inl same ↦ same
    | inr nothing ↦
        let bare : plan.segments ≡ base = bare_base nothing.0 in
        absurd (both_ways (list_any is_loaded base) nothing.1 (ap (list_any is_loaded) (sym bare) ∙ some_loaded i x at takes))
  ]

  -- ## The program header table

  planned_so : (k : KeptSection) → Has k (kept_sections image) → IsPlannedAt image moved k
  planned_so = planned_at image (edited_facts image edited).sized moved

  -- all that were laid out are written, where those that were added are
  all_fit : put_in.added ≡ headers_added r moved → length again.segments ≡ header_count r moved
  unfolding headers_needed
  all_fit all =
      let are : again.segments ≡ put_in.front ++ (put_in.added ++ put_in.behind) = same_segments ∙ planned_segments ∙ written_is ∙ put_in.are in
      let many : length (headers_added r moved) ≡ length (added_flags r moved) =
      length-map (added_loads r moved) (λ load. load.header) ∙ length-added r moved in
      omega (
        arith,
        ap (λ (l : List SegmentHeader). length l) are,
        length-append put_in.front (put_in.added ++ put_in.behind),
        length-append put_in.added put_in.behind,
        length-append put_in.front put_in.behind,
        ap (λ (l : List SegmentHeader). length l) put_in.whole,
        length-all image moved planned_so image.segments,
        ap (λ (l : List SegmentHeader). length l) all,
        many,
      )

  -- where a program header is for the table, some segment is loaded, which has it
  table_fits : (p : SegmentHeader) → Has p image.segments → written_from r moved p ≡ with_table_size r moved p ∷ []
      → (p.p_type == PT_PHDR) ≡ true → length again.segments ≡ header_count r moved
  table_fits p here written is_table = all_fit (elim put_in.which [
    | inl same ↦ same
    | inr nothing ↦
        let q : SegmentHeader = with_table_size r moved p in
        let is_phdr : SegmentHeader → Bool = λ x. x.p_type == PT_PHDR in
        let bare : plan.segments ≡ base = bare_base nothing.0 in
        let among : Has q base = flat_map-from (written_from r moved) image.segments p q here
        (subst (λ (l : List SegmentHeader). Has q l) (sym written) (has_here q [])) in
        let any : list_any is_phdr plan.segments ≡ true = ap (list_any is_phdr) bare ∙ any-from is_phdr base q among is_table in
        let over : SegmentHeader → Bool = λ x. lies_in (written_table r plan) (file_part x) in
        elim (or_cases (not (list_any is_phdr plan.segments)) (list_any over (loads_of plan.segments))
        (plans_are_placed image plan edited planned).table) [
          | inl none ↦ absurd (both_ways (list_any is_phdr plan.segments) (not-true (list_any is_phdr plan.segments) none) any)
          | inr some ↦
              let found = any-at over (loads_of plan.segments) some in
              let back = filter-at is_loaded plan.segments found.element found.here in
              absurd (both_ways (list_any is_loaded base) nothing.1
              (ap (list_any is_loaded) (sym bare) ∙ any-from is_loaded plan.segments found.element back.0 back.1))
        ]
  ])

  module _ (i : ℕ) (k : KeptSection) (now : ImageSection) (k_at : slice_get (kept_sections image) i ≡ Some k)
      (now_at : slice_get again.sections i ≡ Some now) (loaded : is_loaded_section k.section ≡ true) where
    abbrev s : SizedSection
    s = sized_of r k

    s_at : slice_get (sized_sections r) i ≡ Some s
    s_at = at-sized r (edited_facts image edited).sized i k k_at

    here : Has s (sized_sections r)
    here = slice_get-at (sized_sections r) i s s_at

    its_place : slice_get plan.places i ≡ Some (place_in r moved s)
    its_place = ap (λ (ps : List Place). slice_get ps i) planned_places ∙ place_at image (edited_facts image edited).sized moved i s s_at

    stands_so : place_at_read now ≡ place_in r moved s
    stands_so = same_Some (place_at_read now) (place_in r moved s)
        (sym (at-map place_at_read again.sections i now now_at)
        ∙ ap (λ (ps : List Place). slice_get ps i) same_places ∙ its_place)

    is_put : put_in.added ≡ headers_added r moved
    is_put = all_added i (place_in r moved s) its_place (same_memory r moved s here ∙ loaded)

    in_load : (t : Slot) → (to : IsMovedTo r moved s t) → place_in r moved s ≡ stands_at s t.offset t.address → IsInAdded image put_in.added k now
    in_load t to place =
        let sized = (edited_facts image edited).sized in
        let load : AddedLoad = to.load in
        let (j, load_at) = has_at (added_loads r moved) load to.here in
        let (n, slot_at) = has_at load.slots t to.among in
        let (u, u_at, flags, aligned) = each-at (IsSlotFor r sized load.header.p_flags) load.slots
        (each-at (λ (l : AddedLoad). Each (IsSlotFor r sized l.header.p_flags) l.slots) (added_loads r moved) (added_for r sized moved)
        j load load_at) n t slot_at in
        let same : u ≡ s = same_Some u s
        (sym u_at ∙ ap (slice_get (sized_sections r)) to.position ∙ at_position r s here) in
        record {
          index = j;
          load = load.header;
          is_load =
              ap (λ (l : List SegmentHeader). slice_get l j) is_put
              ∙ at-map (λ (l : AddedLoad). l.header) (added_loads r moved) j load load_at;
          flags = sym flags ∙ ap (λ (x : SizedSection). flags_for image.moves_dynamic x.kept.section) same;
          has =
              ap (holds load.header) (stands_so ∙ place)
              ∙ holds_slot load t s ((is_added r moved load to.here).slots t to.among) to.size;
          aligned =
              ap (λ (x : Place). x.sh_addr % alignment_of s) (stands_so ∙ place)
              ∙ ap (λ (x : SizedSection). t.address % alignment_of x) (sym same) ∙ aligned;
        }

    moved_in : (now.sh_addr ≢ k.section.sh_addr) → IsInAdded image put_in.added k now
    moved_in away = elim (stands r moved s here) [
      | inl added ↦ in_load added.slot added.is_moved added.place
      | inr (inl unloaded) ↦ absurd (both_ways (is_loaded_section k.section) (unloaded_parts s unloaded.unloaded).1 loaded)
      | inr (inr on) ↦ absurd (away (ap (λ (x : Place). x.sh_addr) (stands_so ∙ on.place)))
    ]

  -- ## All of them

  pub segments_kept : AreSegmentsKept (image_at_read image) image again
  segments_kept = record {
    front = put_in.front;
    added = put_in.added;
    behind = put_in.behind;
    are = same_segments ∙ planned_segments ∙ written_is ∙ put_in.are;
    kept = subst (AreHeadersInOrder (image_at_read image) image again image.segments) (sym put_in.whole)
        (in_order image again moved (same_places ∙ planned_places) same_form planned_so table_fits image.segments (λ q here. here));
    last = put_in.last;
    loads = of_added (AllByRecursion (IsAddedLoad (image_at_read image) image)) (added_each image (edited_facts image edited).sized moved) tt;
    order = of_added (AreBehind (loads_end image.segments)) (added_ordered r moved) tt;
    moved = λ i s now s_at now_at loaded away. moved_in i s now s_at now_at loaded away;
  }
