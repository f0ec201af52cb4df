-- Where each section stands in a plan: in an added segment, behind the segments, or where it was.
use Rattle.std.proofs.Common.{◌≡◌, ◌≤◌, ◌<◌, ◌⊎◌, ℕ, ◌+◌, Bool, true, false, eqb, List, [], ◌∷◌, refl, sym, ap, ◌∙◌, inl, inr, Option, Some, None, arith}
use Rattle.std.specs.Prelude.{◌&&◌, not, ◌==◌, filter, min, if◌then◌else◌}
use Rattle.std.specs.Int.{next_multiple_of}
use Rattle.std.proofs.lemmas.Bool.{and_parts, both_ways, eq-eqb, eqb-true, false_from_ne_true, not-true, not_from_false}
use Rattle.std.proofs.lemmas.Bool.Decides.{nat_tests}
use Rattle.elf_format.specs.Options.{is_one_of}
use Rattle.elf_format.specs.Placement.{is_stored}
use Rattle.elf_format.specs.Places.{Place, occupies_file, occupies_memory}
use Rattle.elf_layout_plan.specs.Added.{Slot, alignment_of}
use Rattle.elf_tables.specs.Kept.{place_at_read}
use Rattle.elf_layout_plan.specs.Memory.{Resized, SizedSection, sized_sections}
use Rattle.elf_layout_plan.specs.Standing.{UnloadedSlot, content_end, is_unloaded, unloaded_from, unloaded_slot_of, unloaded_slots, unloaded_start, place_in, slot_of, stands_at, stays_at}
use Rattle.elf_layout_plan.proofs.PlacedLists.{Has, filter-at, filter-from, find-at, find-none, has_cases, has_here, has_none, has_there}
use Rattle.elf_layout_plan.proofs.PlacedSections.{same_section}
use Rattle.elf_layout_plan.proofs.PlacedAdded.{IsMovedTo, moved_to, stays}
use Rattle.elf_layout_plan.proofs.PlacedStays.{StaysStored}
use Rattle.elf_layout_plan.proofs.UnloadedParts.{unloaded_parts}

-- ## Sections behind the segments

pub record UnloadedSource (sections : List SizedSection) (x : UnloadedSlot) : Type 0 where
  pub section : SizedSection
  pub here : Has section sections
  pub position : x.position ≡ section.kept.position
  pub size : x.size ≡ section.size

pub unloaded_source : (end : ℕ) (ss : List SizedSection) (x : UnloadedSlot) → Has x (unloaded_from end ss) → UnloadedSource ss x
unfolding unloaded_from
unloaded_source end [] x h = absurd (has_none x h)
unloaded_source end (s ∷ ss) x h =
    let at : ℕ = next_multiple_of end (alignment_of s) in
    elim (has_cases x (record { position = s.kept.position; offset = at; size = s.size }) (unloaded_from (at + s.size) ss) h) [
      | inl same ↦ record {
        section = s;
        here = has_here s ss;
        position = ap (λ (y : UnloadedSlot). y.position) (sym same);
        size = ap (λ (y : UnloadedSlot). y.size) (sym same);
      }
      | inr later ↦
          let more = unloaded_source (at + s.size) ss x later in
          record { section = more.section; here = has_there more.section s ss more.here; position = more.position; size = more.size }
    ]

record UnloadedThere (slots : List UnloadedSlot) (position : ℕ) : Type 0 where
  slot : UnloadedSlot
  here : Has slot slots
  same : slot.position ≡ position

unloaded_there : (end : ℕ) (ss : List SizedSection) (s : SizedSection) → Has s ss → UnloadedThere (unloaded_from end ss) s.kept.position
unfolding unloaded_from
unloaded_there end [] s h = absurd (has_none s h)
unloaded_there end (t ∷ ts) s h =
    let at : ℕ = next_multiple_of end (alignment_of t) in
    let first : UnloadedSlot = record { position = t.kept.position; offset = at; size = t.size } in
    elim (has_cases s t ts h) [
      | inl same ↦ record {
        slot = first;
        here = has_here first (unloaded_from (at + t.size) ts);
        same = ap (λ (y : SizedSection). y.kept.position) same;
      }
      | inr later ↦
          let more = unloaded_there (at + t.size) ts s later in
          record { slot = more.slot; here = has_there more.slot first (unloaded_from (at + t.size) ts) more.here; same = more.same }
    ]

module _ (r : Resized) (moved : List ℕ) where
  -- ## Where a section stands

  -- in an added segment
  pub record StandsAdded (s : SizedSection) : Type 0 where
    pub slot : Slot
    pub is_moved : IsMovedTo r moved s slot
    pub place : place_in r moved s ≡ stands_at s slot.offset slot.address

  -- behind the segments
  pub record StandsUnloaded (s : SizedSection) : Type 0 where
    pub slot : UnloadedSlot
    pub here : Has slot (unloaded_slots r moved)
    pub size : slot.size ≡ s.size
    pub unloaded : is_unloaded s ≡ true
    pub place : place_in r moved s ≡ stands_at s slot.offset s.kept.section.sh_addr

  -- a section stands where it was
  pub record StandsOn (s : SizedSection) : Type 0 where
    pub stays : is_one_of moved s.kept.position ≡ false
    pub not_unloaded : is_unloaded s ≡ false
    pub place : place_in r moved s ≡ stays_at r moved s

  unloaded_slot_from : (s : SizedSection) (x : UnloadedSlot) → Has s (sized_sections r) → unloaded_slot_of r moved s ≡ Some x
      → Has x (unloaded_slots r moved) × (x.size ≡ s.size) × (is_unloaded s ≡ true)
  unfolding unloaded_slots
  unloaded_slot_from s x s_here h =
      let found = find-at (λ y. y.position == s.kept.position) (unloaded_slots r moved) x h in
      let source = unloaded_source (unloaded_start r moved) (filter is_unloaded (sized_sections r)) x found.0 in
      let back = filter-at is_unloaded (sized_sections r) source.section source.here in
      let same : source.section ≡ s =
      same_section r source.section s back.0 s_here (sym source.position ∙ eqb-true x.position s.kept.position found.1) in
      (found.0, source.size ∙ ap (λ (y : SizedSection). y.size) same, ap is_unloaded (sym same) ∙ back.1)

  pub not_unloaded : (s : SizedSection) → Has s (sized_sections r) → unloaded_slot_of r moved s ≡ None → is_unloaded s ≡ false
  unfolding unloaded_slots
  not_unloaded s s_here none = false_from_ne_true (is_unloaded s) (λ unloaded.
      let there = unloaded_there (unloaded_start r moved) (filter is_unloaded (sized_sections r)) s
      (filter-from is_unloaded (sized_sections r) s s_here unloaded) in
      both_ways (there.slot.position == s.kept.position)
      (find-none (λ x. x.position == s.kept.position) (unloaded_slots r moved) none there.slot there.here)
      (eq-eqb there.slot.position s.kept.position there.same))

  place_by : (s : SizedSection) (a : Option Slot) → slot_of r moved s ≡ a → (b : Option UnloadedSlot) → unloaded_slot_of r moved s ≡ b
      → place_in r moved s ≡ (elim a as (λ _. Place) [
        | Some slot ↦ stands_at s slot.offset slot.address
        | None ↦ elim b as (λ _. Place) [ Some slot ↦ stands_at s slot.offset s.kept.section.sh_addr | None ↦ stays_at r moved s ]
      ])
  unfolding place_in
  place_by s a a_is b b_is =
      ap (λ (o : Option Slot). elim o as (λ _. Place) [
        | Some slot ↦ stands_at s slot.offset slot.address
        | None ↦ elim (unloaded_slot_of r moved s) as (λ _. Place) [
          | Some slot ↦ stands_at s slot.offset
              s.kept.section.sh_addr
          | None ↦ stays_at r moved s
        ]
      ]) a_is
      ∙ ap (λ (o : Option UnloadedSlot). elim a as (λ _. Place) [
        | Some slot ↦ stands_at s slot.offset slot.address
        | None ↦ elim o as (λ _. Place) [ Some slot ↦ stands_at s slot.offset s.kept.section.sh_addr | None ↦ stays_at r moved s ]
      ]) b_is

  stands_by : (s : SizedSection) → Has s (sized_sections r) → (a : Option Slot) → slot_of r moved s ≡ a → (b : Option UnloadedSlot)
      → unloaded_slot_of r moved s ≡ b
      → StandsAdded s ⊎ (StandsUnloaded s ⊎ StandsOn s)
  stands_by s here (Some slot) a_is b b_is =
      inl (record { slot = slot; is_moved = moved_to r moved s slot here a_is; place = place_by s (Some slot) a_is b b_is })
  stands_by s here None a_is (Some slot) b_is =
      let from = unloaded_slot_from s slot here b_is in
      inr (inl (record { slot = slot; here = from.0; size = from.1; unloaded = from.2; place = place_by s None a_is (Some slot) b_is }))
  stands_by s here None a_is None b_is =
      inr (inr (record { stays = stays r moved s here a_is; not_unloaded = not_unloaded s here b_is; place = place_by s None a_is None b_is }))

  pub stands : (s : SizedSection) → Has s (sized_sections r) → StandsAdded s ⊎ (StandsUnloaded s ⊎ StandsOn s)
  stands s here = stands_by s here (slot_of r moved s) refl (unloaded_slot_of r moved s) refl

  -- the section keeps what it is
  pub record KeepsKind (s : SizedSection) (x : Place) : Type 0 where
    pub type : x.sh_type ≡ s.kept.section.sh_type
    pub flags : x.sh_flags ≡ s.kept.section.sh_flags
    pub size : x.sh_size ≡ s.size

  kind_at : (s : SizedSection) (x : Place) (offset address : ℕ) → x ≡ stands_at s offset address → KeepsKind s x
  kind_at s x offset address h = record {
    type = ap (λ (y : Place). y.sh_type) h;
    flags = ap (λ (y : Place). y.sh_flags) h;
    size = ap (λ (y : Place). y.sh_size) h;
  }

  pub keeps_kind : (s : SizedSection) → Has s (sized_sections r) → KeepsKind s (place_in r moved s)
  keeps_kind s here = elim (stands s here) [
    | inl added ↦ kind_at s (place_in r moved s) added.slot.offset added.slot.address added.place
    | inr (inl unloaded) ↦ kind_at s (place_in r moved s) unloaded.slot.offset s.kept.section.sh_addr unloaded.place
    | inr (inr on) ↦ kind_at s (place_in r moved s)
        (if occupies_file (place_at_read s.kept.section) && s.size == 0 then min s.kept.section.sh_offset
        (content_end r moved) else s.kept.section.sh_offset)
        s.kept.section.sh_addr on.place
  ]

  pub same_memory : (s : SizedSection) → Has s (sized_sections r)
      → occupies_memory (place_in r moved s) ≡ occupies_memory (place_at_read s.kept.section)
  same_memory s here = ap (λ (n : ℕ). occupies_memory (record (place_at_read s.kept.section) { sh_flags = n })) (keeps_kind s here).flags

  pub same_file : (s : SizedSection) → Has s (sized_sections r) → occupies_file (place_in r moved s) ≡ occupies_file (place_at_read s.kept.section)
  same_file s here = ap (λ (n : ℕ). occupies_file (record (place_at_read s.kept.section) { sh_type = n })) (keeps_kind s here).type

  -- ## Stored sections

  -- a stored section that stays
  pub record StandsStored (s : SizedSection) : Type 0 where
    pub is : StaysStored r moved s
    pub place : place_in r moved s ≡ stands_at s s.kept.section.sh_offset s.kept.section.sh_addr

  filled : (n : ℕ) → not (eqb n 0) ≡ true → 0 < n
  filled n h = grind (arith, nat_tests)

  -- one that isn't loaded isn't stored
  unloaded_not_stored : (s : SizedSection) → is_unloaded s ≡ true → occupies_memory (place_at_read s.kept.section) ≡ true → ⊥
  unloaded_not_stored s unloaded takes =
      both_ways (occupies_memory (place_at_read s.kept.section)) (unloaded_parts s unloaded).1 takes

  -- one that stays with bytes keeps its offset
  stays_filled : (s : SizedSection) → Has s (sized_sections r) → StandsOn s → occupies_memory (place_at_read s.kept.section) ≡ true
      → occupies_file (place_at_read s.kept.section) ≡ true → (s.size == 0) ≡ false → StandsStored s
  stays_filled s here on takes stored some = record {
    is = record { here = here; stays = on.stays; takes = takes; stored = stored; filled = filled s.size (not_from_false (s.size == 0) some) };
    place = on.place
        ∙ ap (λ (b : Bool). stands_at s (if occupies_file (place_at_read s.kept.section) && b then min s.kept.section.sh_offset
        (content_end r moved) else s.kept.section.sh_offset) s.kept.section.sh_addr) some
        ∙ ap (λ (b : Bool). stands_at s (if b && false then min s.kept.section.sh_offset
        (content_end r moved) else s.kept.section.sh_offset) s.kept.section.sh_addr) stored;
  }

  pub stored_stands : (s : SizedSection) → Has s (sized_sections r) → is_stored (place_in r moved s) ≡ true → StandsAdded s ⊎ StandsStored s
  stored_stands s here h =
      let x : Place = place_in r moved s in
      let outer = and_parts (occupies_memory x && occupies_file x) (not (eqb x.sh_size 0)) h in
      let inner = and_parts (occupies_memory x) (occupies_file x) outer.0 in
      let takes : occupies_memory (place_at_read s.kept.section) ≡ true = sym (same_memory s here) ∙ inner.0 in
      let stored : occupies_file (place_at_read s.kept.section) ≡ true = sym (same_file s here) ∙ inner.1 in
      let some : (s.size == 0) ≡ false = ap (λ (n : ℕ). n == 0) (sym (keeps_kind s here).size) ∙ not-true (eqb x.sh_size 0) outer.1 in
      elim (stands s here) [
        | inl added ↦ inl added
        | inr (inl unloaded) ↦ absurd (unloaded_not_stored s unloaded.unloaded takes)
        | inr (inr on) ↦ inr (stays_filled s here on takes stored some)
      ]

  -- an empty section that stays lies no further behind than the file has content
  pub stays_empty : (s : SizedSection) → StandsOn s → occupies_file (place_at_read s.kept.section) ≡ true → (s.size == 0) ≡ true
      → (place_in r moved s).sh_offset ≤ content_end r moved
  stays_empty s on stored empty =
      let old : ℕ = s.kept.section.sh_offset in
      let at : (place_in r moved s).sh_offset ≡ min old (content_end r moved) =
      ap (λ (x : Place). x.sh_offset) on.place
      ∙ ap (λ (b : Bool). if occupies_file (place_at_read s.kept.section) && b then min old (content_end r moved) else old) empty
      ∙ ap (λ (b : Bool). if b && true then min old (content_end r moved) else old) stored in
      omega (arith, at)

  pub standing : (s : SizedSection) → Has s (sized_sections r) → StandsOn s → occupies_memory (place_at_read s.kept.section) ≡ true
      → occupies_file (place_at_read s.kept.section) ≡ true → (s.size == 0) ≡ false → StandsStored s
  standing s here on takes stored some = stays_filled s here on takes stored some
