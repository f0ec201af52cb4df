-- Where the sections that aren't loaded stand in the file of a plan: one behind the other, behind the segments.
use Rattle.std.proofs.Common.{◌≡◌, ◌≤◌, ℕ, ◌+◌, true, List, [], ◌∷◌, map, refl, sym, ap, ◌∙◌, inl, inr, Option, Some, None, arith}
use Rattle.std.specs.Prelude.{◌&&◌, ◌==◌, filter, not}
use Rattle.std.specs.Int.{next_multiple_of}
use Rattle.std.proofs.lemmas.Bool.{and_parts, both_ways, eqb-true}
use Rattle.elf_format.specs.declared.constants.TheConstants.{SHT_NULL}
use Rattle.elf_format.specs.Places.{Place, occupies_memory}
use Rattle.elf_layout_plan.specs.Added.{Slot, alignment_of}
use Rattle.elf_image.specs.Kept.{kept_sections, place_at_read}
use Rattle.elf_layout_plan.specs.Memory.{Resized, SizedSection, is_uninitialized_of_threads, sized_sections, takes_memory}
use Rattle.elf_layout_plan.specs.Rounds.{do_move}
use Rattle.elf_layout_plan.specs.Standing.{UnloadedSlot, is_unloaded, unloaded_from, unloaded_slot_of, unloaded_slots, unloaded_start, place_in, slot_of, stands_at, stays_at}
use Rattle.elf_layout_plan.proofs.ForCallers.ApartSections.{sized_of}
use Rattle.elf_layout_plan.proofs.ForCallers.UnloadedParts.{unloaded_parts}
use Rattle.elf_layout_plan.proofs.ForCallers.PlacedLists.{Has, Pairs, filter-at, find-at, has_cases, has_none, pairs-more, pairs-none}
use Rattle.elf_layout_plan.proofs.ForCallers.PlacedSections.{at_position, same_section}
use Rattle.elf_write_spec.proofs.MovedFacts.{slot_takes}
use Rattle.elf_layout_plan.proofs.ForCallers.PlacedPlaces.{not_unloaded, unloaded_source}

-- ## One behind the other

abbrev pub UnloadedBefore : UnloadedSlot → UnloadedSlot → Type 0
UnloadedBefore x y = x.offset + x.size ≤ y.offset

bounds : (end : ℕ) (ss : List SizedSection) (x : UnloadedSlot) → Has x (unloaded_from end ss) → end ≤ x.offset
unfolding unloaded_from
bounds end [] x h = absurd (has_none x h)
bounds end (s ∷ ss) x h =
    let at : ℕ = next_multiple_of end (alignment_of s) in
    let behind : end ≤ at = omega arith in
    elim (has_cases x (record { position = s.kept.position; offset = at; size = s.size }) (unloaded_from (at + s.size) ss) h) [
      | inl same ↦ omega (arith, behind, ap (λ (y : UnloadedSlot). y.offset) same)
      | inr later ↦ omega (arith, behind, bounds (at + s.size) ss x later)
    ]

pairs : (end : ℕ) (ss : List SizedSection) → Pairs UnloadedBefore (unloaded_from end ss)
unfolding unloaded_from
pairs end [] = pairs-none UnloadedBefore
pairs end (s ∷ ss) =
    let at : ℕ = next_multiple_of end (alignment_of s) in
    pairs-more UnloadedBefore (record { position = s.kept.position; offset = at; size = s.size }) (unloaded_from (at + s.size) ss)
    (λ y here. bounds (at + s.size) ss y here) (pairs (at + s.size) ss)

module _ (r : Resized) (moved : List ℕ) where
  pub unloaded_behind : (x : UnloadedSlot) → Has x (unloaded_slots r moved) → unloaded_start r moved ≤ x.offset
  unfolding unloaded_slots
  unloaded_behind x h = bounds (unloaded_start r moved) (filter is_unloaded (sized_sections r)) x h

  pub unloaded_pairs : Pairs UnloadedBefore (unloaded_slots r moved)
  unfolding unloaded_slots
  unloaded_pairs = pairs (unloaded_start r moved) (filter is_unloaded (sized_sections r))

-- ## The slot of a section

-- what takes memory isn't unloaded
takes_not_unloaded : (s : SizedSection) → is_unloaded s ≡ true → takes_memory s.kept.section ≡ true → ⊥
takes_not_unloaded s unloaded takes =
    let place : Place = place_at_read s.kept.section in
    let first = and_parts (occupies_memory place && not (place.sh_type == SHT_NULL)) (not (is_uninitialized_of_threads s.kept.section)) takes in
    both_ways (occupies_memory place) (unloaded_parts s unloaded).1
    (and_parts (occupies_memory place) (not (place.sh_type == SHT_NULL)) first.0).0

module _ (r : Resized) (moved : List ℕ) where
  -- behind the segments, at a slot of its own
  pub record UnloadedAt (s : SizedSection) : Type 0 where
    pub slot : UnloadedSlot
    pub here : Has slot (unloaded_slots r moved)
    pub position : slot.position ≡ s.kept.position
    pub offset : (place_in r moved s).sh_offset ≡ slot.offset
    pub size : (place_in r moved s).sh_size ≡ slot.size

  place_by : (s : SizedSection) → slot_of r moved s ≡ None → (o : Option UnloadedSlot) → unloaded_slot_of r moved s ≡ o
      → place_in r moved s ≡ (elim o as (λ _. Place) [ Some slot ↦ stands_at s slot.offset s.kept.section.sh_addr | None ↦ stays_at r moved s ])
  unfolding place_in
  place_by s none o is =
      ap (λ (a : Option Slot). elim a as (λ _. Place) [
        | Some slot ↦ stands_at s slot.offset slot.address
        | None ↦ elim (unloaded_slot_of r moved s) as (λ _. Place) [
          | Some slot ↦ stands_at s slot.offset s.kept.section.sh_addr
          | None ↦ stays_at r moved s
        ]
      ]) none
      ∙ ap (λ (b : Option UnloadedSlot). elim b as (λ _. Place) [
        | Some slot ↦ stands_at s slot.offset s.kept.section.sh_addr
        | None ↦ stays_at r moved s
      ]) is

  unloaded_by : (s : SizedSection) → Has s (sized_sections r) → is_unloaded s ≡ true → slot_of r moved s ≡ None → (o : Option UnloadedSlot)
      → unloaded_slot_of r moved s ≡ o → UnloadedAt s
  unfolding unloaded_slots
  unloaded_by s here unloaded none None is = absurd (both_ways (is_unloaded s) (not_unloaded r moved s here is) unloaded)
  unloaded_by s here unloaded none (Some x) is =
      let found = find-at (λ y. y.position == s.kept.position) (unloaded_slots r moved) x is in
      let same : x.position ≡ s.kept.position = eqb-true x.position s.kept.position found.1 in
      let source = unloaded_source (unloaded_start r moved) (filter is_unloaded (sized_sections r)) x found.0 in
      let back = filter-at is_unloaded (sized_sections r) source.section source.here in
      let one : source.section ≡ s = same_section r source.section s back.0 here (sym source.position ∙ same) in
      let place = place_by s none (Some x) is in
      record {
        slot = x;
        here = found.0;
        position = same;
        offset = ap (λ (y : Place). y.sh_offset) place;
        size = ap (λ (y : Place). y.sh_size) place ∙ sym (source.size ∙ ap (λ (y : SizedSection). y.size) one);
      }

module _ (r : Resized) (moved : List ℕ) (looked : ℕ) (sized : sized_sections r ≡ map (sized_of r) (kept_sections r.image))
    (move : do_move r looked moved ≡ true) where
  -- a unloaded section doesn't move
  no_slot : (s : SizedSection) → Has s (sized_sections r) → is_unloaded s ≡ true → (o : Option Slot) → slot_of r moved s ≡ o → slot_of r moved s ≡ None
  no_slot s here unloaded None is = is
  no_slot s here unloaded (Some x) is =
      absurd (takes_not_unloaded s unloaded (slot_takes r sized looked moved move s.kept.position s (at_position r s here) x is))

  pub unloaded_at : (s : SizedSection) → Has s (sized_sections r) → is_unloaded s ≡ true → UnloadedAt r moved s
  unloaded_at s here unloaded = unloaded_by r moved s here unloaded (no_slot s here unloaded (slot_of r moved s) refl) (unloaded_slot_of r moved s) refl
