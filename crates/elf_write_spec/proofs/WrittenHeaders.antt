-- What is written of each program header of the image, and how many there are: two of one over several notes of which only some move.
use Rattle.std.proofs.Common.{◌≡◌, ◌≤◌, ℕ, ◌+◌, Bool, true, false, List, [], ◌∷◌, ◌++◌, map, length, refl, sym, ap, ◌∙◌, subst, Option, arith}
use Rattle.std.specs.Prelude.{◌&&◌, ◌==◌, count_by, filter, if◌then◌else◌, not}
use Rattle.std.specs.List.{cons_option, flat_map, list_any, slice_get}
use Rattle.std.proofs.lemmas.Bool.{both_ways}
use Rattle.std.proofs.lemmas.List.{length-append, length-map}
use Rattle.elf_format.specs.declared.constants.TheConstants.{PT_PHDR}
use Rattle.elf_format.specs.declared.records.SegmentHeader.{SegmentHeader}
use Rattle.elf_format.specs.Image.{Image}
use Rattle.elf_format.specs.Places.{Place}
use Rattle.elf_image.specs.Kept.{KeptSection, kept_sections}
use Rattle.elf_layout_plan.specs.Anchors.{Anchor, HeaderTable, Itself, Notes, OneSection, anchor_of, is_moved, is_parted, is_split, moved_notes, staying_notes}
use Rattle.elf_layout_plan.specs.Memory.{Resized}
use Rattle.elf_layout_plan.specs.Plan.{resized}
use Rattle.elf_layout_plan.specs.Standing.{places}
use Rattle.elf_layout_plan.specs.Written.{Target, anchored_to, places_of_kept, resized_table, target_at, targets_of, targets_of_notes, targets_over, with_table_size, written_from}
use Rattle.elf_layout_plan.proofs.ForCallers.PlacedLists.{Has, any-at, any-from, filter-at, filter-from, filter_map-at, filter_map-from, has_here, has_none}
use Rattle.elf_write_spec.proofs.AnchoredSections.{AreAmong, anchors_among, notes_among, one_among}
use Rattle.elf_write_spec.proofs.LinkedLists.{count-cons, one_if}
use Rattle.elf_write_spec.proofs.PlannedSections.{IsPlannedAt}

-- several places give one target
one_over : (ps : List Place) (x : Place) → Has x ps → length (targets_over ps) ≡ 1
one_over [] x here = absurd (has_none x here)
one_over (s ∷ ss) x here = refl

none_over : (ps : List Place) → ((x : Place) → Has x ps → ⊥) → length (targets_over ps) ≡ 0
none_over [] none = refl
none_over (s ∷ ss) none = absurd (none s (has_here s ss))

module _ (image : Image) (moved : List ℕ) where
  abbrev r : Resized
  r = resized image

  -- ## What is written, by what it goes by

  abbrev pub targets_by : Anchor → List Target
  targets_by anchor = elim anchor as (λ _. List Target) [
    | Itself ↦ []
    | HeaderTable ↦ []
    | OneSection s ↦ map target_at (places_of_kept (places r moved) (s ∷ []))
    | Notes notes ↦ targets_of_notes moved (places r moved) notes
  ]

  abbrev pub table_by : SegmentHeader → Anchor → SegmentHeader
  table_by p anchor = elim anchor as (λ _. SegmentHeader) [ HeaderTable ↦ with_table_size r moved p | _ ↦ p ]

  abbrev pub written_by : SegmentHeader → SegmentHeader → List Target → List SegmentHeader
  written_by p stays targets = elim targets as (λ _. List SegmentHeader) [
    | [] ↦ stays ∷ []
    | t ∷ ts ↦ map (anchored_to image.form p) (t ∷ ts)
  ]

  targets_is : (p : SegmentHeader) → targets_of r moved p ≡ targets_by (anchor_of r.read r.image p)
  unfolding targets_of
  targets_is p = refl

  pub written_is : (p : SegmentHeader) → written_from r moved p ≡ written_by p (table_by p (anchor_of r.read r.image p)) (targets_by (anchor_of r.read r.image p))
  written_is p = ap (λ (ts : List Target). elim ts as (λ _. List SegmentHeader) [
    | [] ↦ resized_table r moved p ∷ []
    | u ∷ us ↦ map (anchored_to image.form p) (u ∷ us)
  ]) (targets_is p)

  -- ## How many there are

  length_written : (p : SegmentHeader) (ts : List Target) → 1 ≤ length ts → length (written_by p p ts) ≡ length ts
  length_written p [] some = absurd (omega (arith, some))
  length_written p (t ∷ ts) some = length-map (t ∷ ts) (anchored_to image.form p)

  module _ (planned : (k : KeptSection) → Has k (kept_sections image) → IsPlannedAt image moved k) where
    -- notes that pass a test go to one place, if there are any
    pub length_over : (test : KeptSection → Bool) (notes : List KeptSection) → ((k : KeptSection) → Has k notes → Has k (kept_sections image))
        → (b : Bool) → list_any test notes ≡ b → length (targets_over (places_of_kept (places r moved) (filter test notes))) ≡ one_if b
    length_over test notes among true some =
        let chosen : List Place = places_of_kept (places r moved) (filter test notes) in
        let found = any-at test notes some in
        let at = planned found.element (among found.element found.here) in
        one_over chosen at.place (filter_map-from (λ (k : KeptSection). slice_get (places r moved) k.position) (filter test notes)
        found.element at.place (filter-from test notes found.element found.here found.passes) at.is_there)
    length_over test notes among false none =
        none_over (places_of_kept (places r moved) (filter test notes)) (λ x here.
        let given = filter_map-at (λ (k : KeptSection). slice_get (places r moved) k.position) (filter test notes) x here in
        let passes = filter-at test notes given.source given.here in
        both_ways (list_any test notes) none (any-from test notes given.source passes.0 passes.1))

    length_notes : (p : SegmentHeader) (notes : List KeptSection) → ((k : KeptSection) → Has k notes → Has k (kept_sections image))
        → (a : Bool) → list_any (is_moved moved) notes ≡ a → (b : Bool) → list_any (λ s. not (is_moved moved s)) notes ≡ b
        → length (written_by p p (if a then targets_over (places_of_kept (places r moved) (staying_notes moved notes))
        ++ targets_over (places_of_kept (places r moved) (moved_notes moved notes)) else [])) ≡ 1 + one_if (a && b)
    length_notes p notes among false none b stay = omega arith
    length_notes p notes among true some b stay =
        let staying : List Target = targets_over (places_of_kept (places r moved) (staying_notes moved notes)) in
        let moving : List Target = targets_over (places_of_kept (places r moved) (moved_notes moved notes)) in
        let first : length staying ≡ one_if b = length_over (λ s. not (is_moved moved s)) notes among b stay in
        let second : length moving ≡ 1 = length_over (is_moved moved) notes among true some in
        let both : length (staying ++ moving) ≡ 1 + one_if b = omega (arith, length-append staying moving, first, second) in
        length_written p (staying ++ moving) (omega (arith, both)) ∙ both

    length_of : (p : SegmentHeader) (anchor : Anchor) → AreAmong (kept_sections image) (p.p_type == PT_PHDR) anchor
        → length (written_by p (table_by p anchor) (targets_by anchor)) ≡ 1 + one_if (is_parted moved anchor)
    length_of p Itself among = omega arith
    length_of p HeaderTable among = omega arith
    length_of p (OneSection s) among =
        let at = planned s (one_among among) in
        subst (λ (o : Option Place). length (written_by p p (map target_at (cons_option o []))) ≡ 1 + one_if false) (sym at.is_there) (omega arith)
    length_of p (Notes notes) among =
        length_notes p notes (notes_among among) (list_any (is_moved moved) notes) refl (list_any (λ s. not (is_moved moved s)) notes) refl

    length-from : (p : SegmentHeader) → length (written_from r moved p) ≡ 1 + one_if (is_split r moved p)
    unfolding is_split
    length-from p = ap (λ (qs : List SegmentHeader). length qs) (written_is p) ∙ length_of p (anchor_of r.read r.image p) (anchors_among r p)

    pub length-all : (ps : List SegmentHeader) → length (flat_map (written_from r moved) ps) ≡ length ps + count_by (is_split r moved) ps
    length-all [] = refl
    length-all (p ∷ ps) =
        omega (
          arith,
          length-append (written_from r moved p) (flat_map (written_from r moved) ps),
          length-from p,
          length-all ps,
          count-cons (is_split r moved) p ps,
        )
