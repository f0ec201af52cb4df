-- Notes that move keep their distances, and so do those that stay.
use Rattle.std.proofs.Common.{◌≡◌, ℕ, suc, ◌+◌, ◌≤◌, Bool, true, false, not, ◌&&◌, List, [], ◌∷◌, map, min, refl, sym, ap, ◌∙◌, subst, inl, inr, Option, Some, None}
use Rattle.std.specs.Prelude.{◌==◌, filter, if◌then◌else◌}
use Rattle.std.specs.Int.{next_multiple_of}
use Rattle.std.specs.List.{slice_get}
use Rattle.std.proofs.lemmas.Bool.{cases_eq, eq-eqb, eqb-true, false≢true, true≢false}
use Rattle.std.proofs.lemmas.Option.{same_Some}
use Rattle.elf_format.specs.Options.{is_one_of}
use Rattle.elf_format.specs.Places.{occupies_file}
use Rattle.elf_layout_plan.specs.Added.{Slot, added_loads, alignment_of, kept_end, load_alignment, loads_from, memory_end}
use Rattle.elf_layout_plan.specs.Anchors.{is_loaded_section}
use Rattle.elf_tables.specs.Kept.{kept_sections, place_at_read}
use Rattle.elf_layout_plan.specs.Memory.{Resized, SizedSection, sized_sections}
use Rattle.elf_layout_plan.specs.Rounds.{added_flags, each_once, flags_for, sections_at}
use Rattle.elf_layout_plan.specs.Standing.{UnloadedSlot, content_end, is_unloaded, unloaded_from, unloaded_slot_of, unloaded_slots, unloaded_start, place_in, slot_of, stands_at}
use Rattle.elf_layout_plan.proofs.ApartLists.{Each, Pairs, any-at, each-all, each-append, each-at, each-filter, each-from, each-more, find-at, find-misses, pairs-filter}
use Rattle.elf_layout_plan.proofs.ApartMemory.{slots_from-distance}
use Rattle.elf_layout_plan.proofs.UnloadedParts.{unloaded_parts}
use Rattle.elf_layout_plan.proofs.ApartPlaces.{unloaded_place, place_by, place_is, slot_found}
use Rattle.elf_layout_plan.proofs.ApartSections.{IsMoved, all_slots, file_behind, first_load, memory_behind, moved_has_slot, sections_move, sized-at, sized_of, slot_at, slots-each, with_flags}

-- ## Sets of flags come once

each_once-pairs : (ns : List ℕ) → Pairs (λ m n. m ≡ n → ⊥) (each_once ns)
unfolding each_once
each_once-pairs [] = tt
each_once-pairs (n ∷ ns) = (
  each-more (λ m. (not (m == n) ≡ true) × Unit {0}) (λ m. n ≡ m → ⊥) (λ m h same. true≢false (sym h.0 ∙ ap (λ b. not b) (eq-eqb m n (sym same)))) (filter (λ m. not (m == n)) (each_once ns))
      (each-filter (λ m. Unit {0}) (λ m. not (m == n)) (each_once ns) (each-all (λ m. Unit {0}) (λ m. tt) (each_once ns))),
  pairs-filter (λ m n. m ≡ n → ⊥) (λ m. not (m == n)) (each_once ns) (each_once-pairs ns),
)

-- as far behind an offset as behind an address
abbrev pub IsAtDistance : ℕ → ℕ → ℕ → ℕ → Type 0
IsAtDistance offset address o a = o + address ≡ offset + a

module _ (r : Resized) (sized : sized_sections r ≡ map (sized_of r) (kept_sections r.image)) where
  -- the slot of a section that needs these flags
  abbrev pub HasFlags : ℕ → Slot → Type 0
  HasFlags flags x = (t : SizedSection) × (slice_get (sized_sections r) x.position ≡ Some t) × (flags_for r.image.moves_dynamic t.kept.section ≡ flags)

  same_flags : (f g : ℕ) (x : Slot) → HasFlags f x → HasFlags g x → f ≡ g
  same_flags f g x (t, at_t, is_f) (u, at_u, is_g) = sym is_f ∙ ap (λ (s : SizedSection). flags_for r.image.moves_dynamic s.kept.section) (same_Some t u (sym at_t ∙ at_u)) ∙ is_g

  -- a section that is at its position
  abbrev IsPlaced : SizedSection → Type 0
  IsPlaced t = slice_get (sized_sections r) t.kept.position ≡ Some t

  load_flagged : (align f end memory : ℕ) (ss : List SizedSection) → Each IsPlaced ss → Each (HasFlags f) (first_load r.image.moves_dynamic align f end memory ss).slots
  load_flagged align f end memory ss placed =
      let load = first_load r.image.moves_dynamic align f end memory ss in
      slots-each (HasFlags f) end load.header.p_vaddr (with_flags r.image.moves_dynamic f ss)
      (each-more (λ t. ((flags_for r.image.moves_dynamic t.kept.section == f) ≡ true) × IsPlaced t) (λ t. (o a : ℕ) → HasFlags f (slot_at t o a)) (λ t h o a. (t, h.1, eqb-true (flags_for r.image.moves_dynamic t.kept.section) f h.0)) (with_flags r.image.moves_dynamic f ss)
      (each-filter IsPlaced (λ t. flags_for r.image.moves_dynamic t.kept.section == f) ss placed))

  loads_flagged : (align end memory : ℕ) (flags : List ℕ) (ss : List SizedSection) → Each IsPlaced ss
      → Each (λ x. (f : ℕ) × (k : ℕ) × (slice_get flags k ≡ Some f) × HasFlags f x) (all_slots (loads_from r.image.moves_dynamic align end memory flags ss))
  unfolding loads_from
  loads_flagged align end memory [] ss placed = tt
  loads_flagged align end memory (f ∷ more) ss placed =
      let load = first_load r.image.moves_dynamic align f end memory ss in
      let others = all_slots (loads_from r.image.moves_dynamic align (file_behind load) (memory_behind load) more ss) in
      each-append (λ x. (g : ℕ) × (k : ℕ) × (slice_get (f ∷ more) k ≡ Some g) × HasFlags g x) load.slots others
      (each-more (HasFlags f) (λ x. (g : ℕ) × (k : ℕ) × (slice_get (f ∷ more) k ≡ Some g) × HasFlags g x) (λ x h. (f, 0, refl, h)) load.slots (load_flagged align f end memory ss placed))
      (each-more (λ x. (g : ℕ) × (k : ℕ) × (slice_get more k ≡ Some g) × HasFlags g x) (λ x. (g : ℕ) × (k : ℕ) × (slice_get (f ∷ more) k ≡ Some g) × HasFlags g x)
      (λ x (g, k, at, has). (g, suc k, at, has)) others (loads_flagged align (file_behind load) (memory_behind load) more ss placed))

  -- the slots of sections with the same flags stand at one distance
  distance_from : (flags : ℕ) (align end memory : ℕ) (all : List ℕ) (ss : List SizedSection) → Each IsPlaced ss → Pairs (λ m n. m ≡ n → ⊥) all
      → (offset : ℕ) × (address : ℕ) × Each (λ x. HasFlags flags x → IsAtDistance offset address x.offset x.address) (all_slots (loads_from r.image.moves_dynamic align end memory all ss))
  unfolding loads_from
  distance_from flags align end memory [] ss placed once = (0, 0, tt)
  distance_from flags align end memory (f ∷ more) ss placed once =
      let load = first_load r.image.moves_dynamic align f end memory ss in
      let others = all_slots (loads_from r.image.moves_dynamic align (file_behind load) (memory_behind load) more ss) in
      let flagged = load_flagged align f end memory ss placed in
      elim (cases_eq f flags) [
        | inl same ↦ (
          end,
          load.header.p_vaddr,
          each-append (λ x. HasFlags flags x → IsAtDistance end load.header.p_vaddr x.offset x.address) load.slots others
              (each-more (λ x. (x.offset + load.header.p_vaddr ≡ end + x.address) × (end ≤ x.offset)) (λ x. HasFlags flags x → IsAtDistance end load.header.p_vaddr x.offset x.address) (λ x h _. h.0) load.slots
              (slots_from-distance end load.header.p_vaddr (with_flags r.image.moves_dynamic f ss)))
              (each-more (λ x. (g : ℕ) × (k : ℕ) × (slice_get more k ≡ Some g) × HasFlags g x) (λ x. HasFlags flags x → IsAtDistance end load.header.p_vaddr x.offset x.address)
              (λ x (g, k, at, has) has_flags. absurd (each-at (λ m. f ≡ m → ⊥) more once.0 k g at (same ∙ same_flags flags g x has_flags has))) others
              (loads_flagged align (file_behind load) (memory_behind load) more ss placed)),
        )
        | inr differ ↦
            let (offset, address, rest) = distance_from flags align (file_behind load) (memory_behind load) more ss placed once.1 in (
              offset,
              address,
              each-append (λ x. HasFlags flags x → IsAtDistance offset address x.offset x.address) load.slots others
                  (each-more (HasFlags f) (λ x. HasFlags flags x → IsAtDistance offset address x.offset x.address) (λ x has has_flags. absurd (differ (same_flags f flags x has has_flags))) load.slots flagged) rest,
            )
      ]

  module _ (moved : List ℕ) where
    pub distance_of : (flags : ℕ) → (offset : ℕ) × (address : ℕ) × Each (λ x. HasFlags flags x → IsAtDistance offset address x.offset x.address) (all_slots (added_loads r moved))
    unfolding added_loads
    distance_of flags =
        distance_from flags (load_alignment r.read r.image) (kept_end r moved) (memory_end r) (added_flags r moved) (sections_at r moved)
        (each-more (IsMoved r sized moved) IsPlaced (λ t h. h.1) (sections_at r moved) (sections_move r sized moved)) (each_once-pairs (map (λ s. flags_for r.image.moves_dynamic s.kept.section) (sections_at r moved)))

    -- ## A section's slot, by whether it moves

    pub stays_without_slot : (t : SizedSection) → is_one_of moved t.kept.position ≡ false → slot_of r moved t ≡ None
    stays_without_slot t stays = by_slot (slot_of r moved t) refl
      where
        by_slot : (o : Option Slot) → slot_of r moved t ≡ o → o ≡ None
        by_slot None e = refl
        by_slot (Some x) e =
            let (_, _, same, (among, _)) = slot_found r sized moved t x e in
            absurd (false≢true (sym stays ∙ ap (is_one_of moved) (sym (eqb-true x.position t.kept.position same)) ∙ among))

    pub moves_with_slot : (t : SizedSection) → IsPlaced t → is_one_of moved t.kept.position ≡ true → (x : Slot) × (slot_of r moved t ≡ Some x)
    moves_with_slot t placed moves = by_slot (slot_of r moved t) refl
      where
        by_slot : (o : Option Slot) → slot_of r moved t ≡ o → (x : Slot) × (o ≡ Some x)
        by_slot (Some x) e = (x, refl)
        by_slot None e =
            let test : Slot → Bool = λ y. y.position == t.kept.position in
            let slots : List Slot = all_slots (added_loads r moved) in
            let (i, x, at_x, passes) = any-at test slots (moved_has_slot r sized moved t placed moves) in
            absurd (false≢true (sym (each-at (λ y. test y ≡ false) slots (find-misses test slots e) i x at_x) ∙ passes))

    -- a slot behind the segments is that of a section that isn't loaded
    abbrev IsUnloadedSlot : UnloadedSlot → Type 0
    IsUnloadedSlot x = (t : SizedSection) × (slice_get (sized_sections r) x.position ≡ Some t) × (is_unloaded t ≡ true)

    unloaded_from-each : (end : ℕ) (ss : List SizedSection) → Each (λ t. (is_unloaded t ≡ true) × IsPlaced t) ss → Each IsUnloadedSlot (unloaded_from end ss)
    unfolding unloaded_from
    unloaded_from-each end [] h = tt
    unloaded_from-each end (s ∷ ss) h = let at = next_multiple_of end (alignment_of s) in ((s, h.0.1, h.0.0), unloaded_from-each (at + s.size) ss h.1)

    all_placed : Each IsPlaced (sized_sections r)
    all_placed = each-from IsPlaced (sized_sections r) (λ i t at. subst (λ (n : ℕ). slice_get (sized_sections r) n ≡ Some t) (sym (sized-at r sized i t at).0) at)

    unloaded_each : Each IsUnloadedSlot (unloaded_slots r moved)
    unfolding unloaded_slots
    unloaded_each = unloaded_from-each (unloaded_start r moved) (filter is_unloaded (sized_sections r)) (each-filter IsPlaced is_unloaded (sized_sections r) all_placed)

    loaded_isnt_unloaded : (t : SizedSection) → IsPlaced t → is_loaded_section t.kept.section ≡ true → unloaded_slot_of r moved t ≡ None
    loaded_isnt_unloaded t placed loaded = by_slot (unloaded_slot_of r moved t) refl
      where
        by_slot : (o : Option UnloadedSlot) → unloaded_slot_of r moved t ≡ o → o ≡ None
        by_slot None e = refl
        by_slot (Some x) e =
            let (i, at, same) = find-at (λ (y : UnloadedSlot). y.position == t.kept.position) (unloaded_slots r moved) x e in
            let (u, at_u, unloaded) = each-at IsUnloadedSlot (unloaded_slots r moved) unloaded_each i x at in
            let at_t : slice_get (sized_sections r) t.kept.position ≡ Some u = subst (λ (n : ℕ). slice_get (sized_sections r) n ≡ Some u) (eqb-true x.position t.kept.position same) at_u in
            let is_t : t ≡ u = same_Some t u (sym placed ∙ at_t) in
            absurd (false≢true (sym (unloaded_parts u unloaded).1 ∙ ap (λ (s : SizedSection). is_loaded_section s.kept.section) (sym is_t) ∙ loaded))

    -- a loaded section with something in it that doesn't move keeps its offset and its address
    pub stays_where_it_was : (t : SizedSection) → IsPlaced t → is_loaded_section t.kept.section ≡ true → (t.size == 0) ≡ false → is_one_of moved t.kept.position ≡ false
        → place_in r moved t ≡ stands_at t t.kept.section.sh_offset t.kept.section.sh_addr
    unfolding place_by unloaded_place
    stays_where_it_was t placed loaded filled stays =
        let s = t.kept.section in
        place_is r moved t ∙ ap (place_by r moved t) (stays_without_slot t stays) ∙ ap (unloaded_place r moved t) (loaded_isnt_unloaded t placed loaded)
        ∙ ap (λ b. stands_at t (if b then min s.sh_offset (content_end r moved) else s.sh_offset) s.sh_addr) (and_false (occupies_file (place_at_read s)) (t.size == 0) filled)
      where
        and_false : (a b : Bool) → b ≡ false → (a && b) ≡ false
        and_false true b e = e
        and_false false b e = refl
