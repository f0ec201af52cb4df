-- Where a section stands in a plan, by whether it has a slot.
use Rattle.std.proofs.Common.{◌≡◌, ℕ, Bool, true, false, List, map, refl, sym, ap, ◌∙◌, subst, Option, Some, None}
use Rattle.std.specs.Prelude.{◌==◌}
use Rattle.std.specs.List.{slice_get}
use Rattle.std.proofs.lemmas.Bool.{false≢true}
use Rattle.elf_format.specs.Options.{is_one_of}
use Rattle.elf_format.specs.Places.{Place}
use Rattle.elf_layout_plan.specs.Added.{Slot, added_loads}
use Rattle.elf_tables.specs.Kept.{kept_sections}
use Rattle.elf_layout_plan.specs.Memory.{Resized, SizedSection, sized_sections}
use Rattle.elf_layout_plan.specs.Standing.{UnloadedSlot, unloaded_slot_of, place_in, slot_of, stands_at, stays_at}
use Rattle.elf_layout_plan.proofs.ApartLists.{any-at, each-at, find-at, find-misses}
use Rattle.elf_layout_plan.proofs.ApartSections.{IsSlot, all_slots, moved_has_slot, sized_of, slots_move}

module _ (r : Resized) (moved : List ℕ) (t : SizedSection) where
  -- a section's place by its slot, if it has one
  unfoldable pub unloaded_place : Option UnloadedSlot → Place
  unloaded_place o = elim o [ Some slot ↦ stands_at t slot.offset t.kept.section.sh_addr | None ↦ stays_at r moved t ]

  unfoldable pub place_by : Option Slot → Place
  place_by o = elim o [ Some slot ↦ stands_at t slot.offset slot.address | None ↦ unloaded_place (unloaded_slot_of r moved t) ]

  pub place_is : place_in r moved t ≡ place_by (slot_of r moved t)
  unfolding place_in place_by unloaded_place
  place_is = refl

  pub place_at_slot : (x : Slot) → slot_of r moved t ≡ Some x → place_in r moved t ≡ stands_at t x.offset x.address
  unfolding place_by
  place_at_slot x e = place_is ∙ ap place_by e

  -- type, flags and size never depend on that
  pub record IsPlaceOf (s : Place) : Type 0 where
    pub type : s.sh_type ≡ t.kept.section.sh_type
    pub flags : s.sh_flags ≡ t.kept.section.sh_flags
    pub size : s.sh_size ≡ t.size

  unloaded_is : (o : Option UnloadedSlot) → IsPlaceOf (unloaded_place o) × ((unloaded_place o).sh_addr ≡ t.kept.section.sh_addr)
  unfolding unloaded_place
  unloaded_is (Some x) = (record { type = refl; flags = refl; size = refl }, refl)
  unloaded_is None = (record { type = refl; flags = refl; size = refl }, refl)

  by_is : (o : Option Slot) → IsPlaceOf (place_by o)
  unfolding place_by
  by_is (Some x) = record { type = refl; flags = refl; size = refl }
  by_is None = (unloaded_is (unloaded_slot_of r moved t)).0

  pub is_place : IsPlaceOf (place_in r moved t)
  is_place = subst IsPlaceOf (sym place_is) (by_is (slot_of r moved t))

  -- without a slot it keeps its address
  pub keeps_address : slot_of r moved t ≡ None → (place_in r moved t).sh_addr ≡ t.kept.section.sh_addr
  unfolding place_by
  keeps_address e = ap (λ (s : Place). s.sh_addr) (place_is ∙ ap place_by e) ∙ (unloaded_is (unloaded_slot_of r moved t)).1

module _ (r : Resized) (sized : sized_sections r ≡ map (sized_of r) (kept_sections r.image)) (moved : List ℕ) where
  -- a slot that is found, and the section whose it is
  pub slot_found : (t : SizedSection) (x : Slot) → slot_of r moved t ≡ Some x
      → (i : ℕ) × (slice_get (all_slots (added_loads r moved)) i ≡ Some x) × ((x.position == t.kept.position) ≡ true) × IsSlot r sized moved x
  slot_found t x e =
      let (i, at, same) = find-at (λ (y : Slot). y.position == t.kept.position) (all_slots (added_loads r moved)) x e in
      (i, at, same, each-at (IsSlot r sized moved) (all_slots (added_loads r moved)) (slots_move r sized moved) i x at)

  -- a section without a slot doesn't move
  pub none_stays : (t : SizedSection) → slice_get (sized_sections r) t.kept.position ≡ Some t → slot_of r moved t ≡ None → is_one_of moved t.kept.position ≡ false
  none_stays t at e = by_test (is_one_of moved t.kept.position) refl
    where
      by_test : (b : Bool) → is_one_of moved t.kept.position ≡ b → b ≡ false
      by_test false h = refl
      by_test true h =
          let test : Slot → Bool = λ y. y.position == t.kept.position in
          let slots : List Slot = all_slots (added_loads r moved) in
          let (i, x, at_x, passes) = any-at test slots (moved_has_slot r sized moved t at h) in
          absurd (false≢true (sym (each-at (λ y. test y ≡ false) slots (find-misses test slots e) i x at_x) ∙ passes))
