-- Where the sections of the image stand in a plan.
use Rattle.std.proofs.Common.{◌≡◌, ℕ, ◌+◌, false, List, map, sym, ap, ◌∙◌, inl, inr, Some, arith}
use Rattle.std.specs.List.{slice_get}
use Rattle.std.proofs.lemmas.Bool.{both_ways}
use Rattle.elf_format.specs.Image.{Image}
use Rattle.elf_format.specs.Options.{is_one_of}
use Rattle.elf_format.specs.Places.{Place}
use Rattle.elf_image.specs.Kept.{KeptSection, kept_sections}
use Rattle.elf_layout_plan.specs.Added.{AddedLoad, Slot, added_loads}
use Rattle.elf_layout_plan.specs.Anchors.{is_moved}
use Rattle.elf_layout_plan.specs.Memory.{Resized, SizedSection, sized_sections}
use Rattle.elf_layout_plan.specs.Plan.{resized}
use Rattle.elf_layout_plan.specs.Standing.{place_in, places}
use Rattle.elf_layout_plan.proofs.ForCallers.ApartLists.{at-map, each-at}
use Rattle.elf_layout_plan.proofs.ForCallers.ApartSections.{IsSlot, all_slots, at-sized, kept-at, sized_of, slots_move}
use Rattle.elf_layout_plan.proofs.ForCallers.PlacedAdded.{IsMovedTo}
use Rattle.elf_layout_plan.proofs.ForCallers.PlacedLists.{Has, flat_map-from, slice_get-at}
use Rattle.elf_layout_plan.proofs.ForCallers.PlacedPlaces.{stands}
use Rattle.elf_write_spec.proofs.WholeLists.{has_at}

-- a section has a place, and its address where it doesn't move
pub record IsPlannedAt (image : Image) (moved : List ℕ) (k : KeptSection) : Type 0 where
  pub place : Place
  pub is_there : slice_get (places (resized image) moved) k.position ≡ Some place
  pub stays : is_moved moved k ≡ false → place.sh_addr ≡ k.section.sh_addr

module _ (image : Image) (sized : sized_sections (resized image) ≡ map (sized_of (resized image)) (kept_sections image)) (moved : List ℕ) where
  abbrev r : Resized
  r = resized image

  pub place_at : (i : ℕ) (s : SizedSection) → slice_get (sized_sections r) i ≡ Some s → slice_get (places r moved) i ≡ Some (place_in r moved s)
  unfolding places
  place_at i s at = at-map (place_in r moved) (sized_sections r) i s at

  -- a section with a slot moves
  slot_moves : (s : SizedSection) (t : Slot) → IsMovedTo r moved s t → is_one_of moved s.kept.position ≡ false → ⊥
  slot_moves s t to stays =
      let among : Has t (all_slots (added_loads r moved)) =
      flat_map-from (λ (load : AddedLoad). load.slots) (added_loads r moved) to.load t to.here to.among in
      let (i, at) = has_at (all_slots (added_loads r moved)) t among in
      let known = each-at (IsSlot r sized moved) (all_slots (added_loads r moved)) (slots_move r sized moved) i t at in
      both_ways (is_one_of moved s.kept.position) stays (ap (is_one_of moved) (sym to.position) ∙ known.0)

  pub planned_at : (k : KeptSection) → Has k (kept_sections image) → IsPlannedAt image moved k
  planned_at k among =
      let (i, at) = has_at (kept_sections image) k among in
      let position : k.position ≡ i = (kept-at 0 image.section_numbers image.sections i k at).0 ∙ none_more i in
      let s : SizedSection = sized_of r k in
      let s_at : slice_get (sized_sections r) i ≡ Some s = at-sized r sized i k at in
      let here : Has s (sized_sections r) = slice_get-at (sized_sections r) i s s_at in
      record {
        place = place_in r moved s;
        is_there = ap (slice_get (places r moved)) position ∙ place_at i s s_at;
        stays = λ not_moved. elim (stands r moved s here) [
          | inl added ↦ absurd (slot_moves s added.slot added.is_moved not_moved)
          | inr (inl unloaded) ↦ ap (λ (x : Place). x.sh_addr) unloaded.place
          | inr (inr on) ↦ ap (λ (x : Place). x.sh_addr) on.place
        ];
      }
    where
      none_more : (n : ℕ) → 0 + n ≡ n
      none_more n = omega arith
