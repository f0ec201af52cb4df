-- Where added segments stand, and the sections in them.
use Rattle.std.proofs.Common.{◌≡◌, ◌≤◌, ◌⊎◌, ℕ, suc, ◌+◌, ◌-◌, ◌%◌, Bool, false, List, [], ◌∷◌, map, length, refl, sym, ap, ◌∙◌, subst, inl, inr, Some, None, arith}
use Rattle.std.specs.Prelude.{not, ◌==◌, filter}
use Rattle.std.specs.Int.{next_multiple_of}
use Rattle.std.specs.List.{flat_map, slice_get}
use Rattle.std.proofs.lemmas.Bool.{both_ways, cases_eq, eq-eqb, eqb-true, false_from_ne_true, ne_eqb, not_from_false}
use Rattle.elf_format.specs.declared.constants.TheConstants.{PT_LOAD}
use Rattle.elf_format.specs.Options.{is_one_of}
use Rattle.elf_format.specs.Placement.{file_part, memory_part}
use Rattle.elf_format.specs.Ranges.{end_of}
use Rattle.elf_layout_plan.specs.Added.{AddedLoad, Slot, added_loads, alignment_of, greatest, kept_end, load_alignment, load_at, loads_from, memory_end, slots_from}
use Rattle.elf_layout_plan.specs.Memory.{Resized, SizedSection, sized_sections}
use Rattle.elf_layout_plan.specs.Rounds.{added_flags, each_once, flags_for, sections_at}
use Rattle.elf_layout_plan.specs.Standing.{slot_of}
use Rattle.elf_layout_plan.proofs.PlacedLists.{Has, Pairs, any-at, append-left, append-right, filter-at, filter-from, filter_map-at, filter_map-from, find-at, find-none, flat_map-at, greatest-at, greatest-first, has_cases, has_here, has_none, has_same, has_there, map-from, pairs-more, pairs-none, slice_get-at}
use Rattle.elf_layout_plan.proofs.PlacedSections.{at_position, same_section}

-- ## Slots

-- a slot at that offset or behind it, at the distance of an address from the offset
pub record IsSlotFrom (offset address : ℕ) (t : Slot) : Type 0 where
  pub begins : offset ≤ t.offset
  pub distance : t.address + offset ≡ address + t.offset

-- a slot is a section's
pub record SlotSource (sections : List SizedSection) (t : Slot) : Type 0 where
  pub section : SizedSection
  pub here : Has section sections
  pub position : t.position ≡ section.kept.position
  pub size : t.size ≡ section.size

-- the first slot, and those behind it
abbrev first_slot : ℕ → ℕ → SizedSection → Slot
first_slot offset address s =
    let at = next_multiple_of address (alignment_of s) in
    record { position = s.kept.position; offset = offset + (at - address); address = at; size = s.size }

abbrev later_slots : ℕ → ℕ → SizedSection → List SizedSection → List Slot
later_slots offset address s ss =
    let at = next_multiple_of address (alignment_of s) in
    slots_from (offset + (at - address) + s.size) (at + s.size) ss

slots-step : (offset address : ℕ) (s : SizedSection) (ss : List SizedSection)
    → slots_from offset address (s ∷ ss) ≡ first_slot offset address s ∷ later_slots offset address s ss
unfolding slots_from
slots-step offset address s ss = refl

slots-none : (offset address : ℕ) → slots_from offset address [] ≡ []
unfolding slots_from
slots-none offset address = refl

no_slot : (offset address : ℕ) (t : Slot) → Has t (slots_from offset address []) → ⊥
no_slot offset address t h = has_none t (subst (λ (l : List Slot). Has t l) (slots-none offset address) h)

slot_cases : (offset address : ℕ) (s : SizedSection) (ss : List SizedSection) (t : Slot) → Has t (slots_from offset address (s ∷ ss))
    → (first_slot offset address s ≡ t) ⊎ Has t (later_slots offset address s ss)
slot_cases offset address s ss t h =
    has_cases t (first_slot offset address s) (later_slots offset address s ss)
    (subst (λ (l : List Slot). Has t l) (slots-step offset address s ss) h)

first_from : (offset address : ℕ) (s : SizedSection) → IsSlotFrom offset address (first_slot offset address s)
first_from offset address s = record { begins = omega arith; distance = omega arith }

slots_bounds : (offset address : ℕ) (ss : List SizedSection) (t : Slot) → Has t (slots_from offset address ss) → IsSlotFrom offset address t
slots_bounds offset address [] t h = absurd (no_slot offset address t h)
slots_bounds offset address (s ∷ ss) t h = elim (slot_cases offset address s ss t h) [
  | inl same ↦ subst (λ (x : Slot). IsSlotFrom offset address x) same (first_from offset address s)
  | inr later ↦
      let at : ℕ = next_multiple_of address (alignment_of s) in
      let more = slots_bounds (offset + (at - address) + s.size) (at + s.size) ss t later in
      let begins : offset + (at - address) + s.size ≤ t.offset = more.begins in
      let distance : t.address + (offset + (at - address) + s.size) ≡ at + s.size + t.offset = more.distance in
      let behind : address ≤ at = omega arith in
      record { begins = omega (arith, begins); distance = omega (arith, distance, behind) }
]

-- each ends where the next one begins, or before
abbrev pub EndsBefore : Slot → Slot → Type 0
EndsBefore s t = s.offset + s.size ≤ t.offset

slots_pairs : (offset address : ℕ) (ss : List SizedSection) → Pairs EndsBefore (slots_from offset address ss)
slots_pairs offset address [] = subst (λ (l : List Slot). Pairs EndsBefore l) (sym (slots-none offset address)) (pairs-none EndsBefore)
slots_pairs offset address (s ∷ ss) =
    let at : ℕ = next_multiple_of address (alignment_of s) in
    subst (λ (l : List Slot). Pairs EndsBefore l) (sym (slots-step offset address s ss))
    (pairs-more EndsBefore (first_slot offset address s) (later_slots offset address s ss)
    (λ t here. (slots_bounds (offset + (at - address) + s.size) (at + s.size) ss t here).begins)
    (slots_pairs (offset + (at - address) + s.size) (at + s.size) ss))

slot_source : (offset address : ℕ) (ss : List SizedSection) (t : Slot) → Has t (slots_from offset address ss) → SlotSource ss t
slot_source offset address [] t h = absurd (no_slot offset address t h)
slot_source offset address (s ∷ ss) t h = elim (slot_cases offset address s ss t h) [
  | inl same ↦ record {
    section = s;
    here = has_here s ss;
    position = ap (λ (x : Slot). x.position) (sym same);
    size = ap (λ (x : Slot). x.size) (sym same);
  }
  | inr later ↦
      let at : ℕ = next_multiple_of address (alignment_of s) in
      let more = slot_source (offset + (at - address) + s.size) (at + s.size) ss t later in
      record { section = more.section; here = has_there more.section s ss more.here; position = more.position; size = more.size }
]

-- each section has a slot
record SlotThere (slots : List Slot) (position : ℕ) : Type 0 where
  slot : Slot
  here : Has slot slots
  same : slot.position ≡ position

slot_there : (offset address : ℕ) (ss : List SizedSection) (x : SizedSection) → Has x ss → SlotThere (slots_from offset address ss) x.kept.position
slot_there offset address [] x h = absurd (has_none x h)
slot_there offset address (s ∷ ss) x h = subst (λ (l : List Slot). SlotThere l x.kept.position) (sym (slots-step offset address s ss))
    (elim (has_cases x s ss h) [
      | inl same ↦ record {
        slot = first_slot offset address s;
        here = has_here (first_slot offset address s) (later_slots offset address s ss);
        same = ap (λ (y : SizedSection). y.kept.position) same;
      }
      | inr later ↦
          let at : ℕ = next_multiple_of address (alignment_of s) in
          let more = slot_there (offset + (at - address) + s.size) (at + s.size) ss x later in
          record {
            slot = more.slot;
            here = has_there more.slot (first_slot offset address s) (later_slots offset address s ss) more.here;
            same = more.same;
          }
    ])

-- ## Added segments

-- a slot lies in its segment's part of the file, at the distance of that
pub record IsSlotOf (load : AddedLoad) (t : Slot) : Type 0 where
  pub begins : load.header.p_offset ≤ t.offset
  pub ends : t.offset + t.size ≤ load.header.p_offset + load.header.p_filesz
  pub distance : t.address + load.header.p_offset ≡ load.header.p_vaddr + t.offset

-- a loaded segment behind the ends of file and memory, with slots of sections
pub record IsAdded (end memory : ℕ) (sections : List SizedSection) (load : AddedLoad) : Type 0 where
  pub loaded : load.header.p_type ≡ PT_LOAD
  pub whole : load.header.p_filesz ≡ load.header.p_memsz
  pub in_file : end ≤ load.header.p_offset
  pub in_memory : memory ≤ load.header.p_vaddr
  pub slots : (t : Slot) → Has t load.slots → IsSlotOf load t
  pub slots_apart : Pairs EndsBefore load.slots
  pub sources : (t : Slot) → Has t load.slots → SlotSource sections t

abbrev sections_with : Bool → ℕ → List SizedSection → List SizedSection
sections_with leave flags sections = filter (λ s. flags_for leave s.kept.section == flags) sections

abbrev first_load : Bool → ℕ → ℕ → ℕ → ℕ → List SizedSection → AddedLoad
first_load leave align end memory flags sections = load_at align flags end (next_multiple_of memory align + end % align) (sections_with leave flags sections)

first_added : (leave : Bool) (align end memory flags : ℕ) (sections : List SizedSection) → IsAdded end memory sections (first_load leave align end memory flags sections)
first_added leave align end memory flags sections =
    let address : ℕ = next_multiple_of memory align + end % align in
    let chosen : List SizedSection = sections_with leave flags sections in
    let slots : List Slot = slots_from end address chosen in
    let ends : List ℕ = map (λ s. s.offset + s.size) slots in
    record {
      loaded = refl;
      whole = refl;
      in_file = omega arith;
      in_memory = omega arith;
      slots = λ t here.
          let from = slots_bounds end address chosen t here in
          let high : t.offset + t.size ≤ greatest end ends = greatest-at end ends (t.offset + t.size)
          (map-from (λ s. s.offset + s.size) slots t here) in
          let low : end ≤ greatest end ends = greatest-first end ends in
          record { begins = from.begins; ends = within end (greatest end ends) (t.offset + t.size) low high; distance = from.distance };
      slots_apart = slots_pairs end address chosen;
      sources = λ t here.
          let from = slot_source end address chosen t here in
          record {
            section = from.section;
            here = (filter-at (λ s. flags_for leave s.kept.section == flags) sections from.section from.here).0;
            position = from.position;
            size = from.size;
          };
    }
  where
    within : (low high n : ℕ) → low ≤ high → n ≤ high → n ≤ low + (high - low)
    within low high n l h = omega arith

abbrev later_loads : Bool → ℕ → ℕ → ℕ → ℕ → List ℕ → List SizedSection → List AddedLoad
later_loads leave align end memory flags more sections =
    let load = first_load leave align end memory flags sections in
    loads_from leave align (end_of (file_part load.header)) (end_of (memory_part load.header)) more sections

loads-step : (leave : Bool) (align end memory flags : ℕ) (more : List ℕ) (sections : List SizedSection)
    → loads_from leave align end memory (flags ∷ more) sections ≡ first_load leave align end memory flags sections ∷ later_loads leave align end memory flags
    more sections
unfolding loads_from
loads-step leave align end memory flags more sections = refl

loads-none : (leave : Bool) (align end memory : ℕ) (sections : List SizedSection) → loads_from leave align end memory [] sections ≡ []
unfolding loads_from
loads-none leave align end memory sections = refl

weaker : (low end mid memory : ℕ) (sections : List SizedSection) (load : AddedLoad) → low ≤ end → mid ≤ memory
    → IsAdded end memory sections load → IsAdded low mid sections load
weaker low end mid memory sections load l m h = record {
  loaded = h.loaded;
  whole = h.whole;
  in_file = omega (arith, h.in_file);
  in_memory = omega (arith, h.in_memory);
  slots = h.slots;
  slots_apart = h.slots_apart;
  sources = h.sources;
}

added_at : (leave : Bool) (align end memory : ℕ) (flags : List ℕ) (sections : List SizedSection) (load : AddedLoad)
    → Has load (loads_from leave align end memory flags sections)
    → IsAdded end memory sections load
added_at leave align end memory [] sections load h = absurd
    (has_none load (subst (λ (l : List AddedLoad). Has load l) (loads-none leave align end memory sections) h))
added_at leave align end memory (n ∷ ns) sections load h =
    let first : AddedLoad = first_load leave align end memory n sections in
    let is = first_added leave align end memory n sections in
    elim (has_cases load first (later_loads leave align end memory n ns sections)
    (subst (λ (l : List AddedLoad). Has load l) (loads-step leave align end memory n ns sections) h)) [
      | inl same ↦ subst (λ (x : AddedLoad). IsAdded end memory sections x) same is
      | inr later ↦
          weaker end (end_of (file_part first.header)) memory (end_of (memory_part first.header)) sections load (omega arith) (omega arith)
          (added_at leave align (end_of (file_part first.header)) (end_of (memory_part first.header)) ns sections load later)
    ]

-- each stands behind the one before it
pub record StandsBefore (l m : AddedLoad) : Type 0 where
  pub in_file : end_of (file_part l.header) ≤ m.header.p_offset
  pub in_memory : end_of (memory_part l.header) ≤ m.header.p_vaddr

added_pairs : (leave : Bool) (align end memory : ℕ) (flags : List ℕ) (sections : List SizedSection)
    → Pairs StandsBefore (loads_from leave align end memory flags sections)
added_pairs leave align end memory [] sections = subst (λ (l : List AddedLoad). Pairs StandsBefore l) (sym (loads-none leave align end memory sections))
    (pairs-none StandsBefore)
added_pairs leave align end memory (n ∷ ns) sections =
    let first : AddedLoad = first_load leave align end memory n sections in
    subst (λ (l : List AddedLoad). Pairs StandsBefore l) (sym (loads-step leave align end memory n ns sections))
    (pairs-more StandsBefore first (later_loads leave align end memory n ns sections)
    (λ m here.
    let is = added_at leave align (end_of (file_part first.header)) (end_of (memory_part first.header)) ns sections m here in
    record { in_file = is.in_file; in_memory = is.in_memory })
    (added_pairs leave align (end_of (file_part first.header)) (end_of (memory_part first.header)) ns sections))

pub length-loads : (leave : Bool) (align end memory : ℕ) (flags : List ℕ) (sections : List SizedSection)
    → length (loads_from leave align end memory flags sections) ≡ length flags
unfolding loads_from
length-loads leave align end memory [] sections = refl
length-loads leave align end memory (n ∷ ns) sections =
    let first : AddedLoad = first_load leave align end memory n sections in
    ap suc (length-loads leave align (end_of (file_part first.header)) (end_of (memory_part first.header)) ns sections)

abbrev all_slots : List AddedLoad → List Slot
all_slots loads = flat_map (λ load. load.slots) loads

-- a section has a slot in the segment with its flags
slot_added : (leave : Bool) (align end memory : ℕ) (flags : List ℕ) (sections : List SizedSection) (x : SizedSection) → Has x sections
    → Has (flags_for leave x.kept.section) flags
    → SlotThere (all_slots (loads_from leave align end memory flags sections)) x.kept.position
slot_added leave align end memory [] sections x here among = absurd (has_none (flags_for leave x.kept.section) among)
slot_added leave align end memory (n ∷ ns) sections x here among =
    let first : AddedLoad = first_load leave align end memory n sections in
    let address : ℕ = next_multiple_of memory align + end % align in
    let rest : List AddedLoad = later_loads leave align end memory n ns sections in
    subst (λ (l : List AddedLoad). SlotThere (all_slots l) x.kept.position) (sym (loads-step leave align end memory n ns sections))
    (elim (has_cases (flags_for leave x.kept.section) n ns among) [
      | inl same ↦
          let chosen = filter-from (λ s. flags_for leave s.kept.section == n) sections x here (eq-eqb (flags_for leave x.kept.section) n (sym same)) in
          let there = slot_there end address (sections_with leave n sections) x chosen in
          record { slot = there.slot; here = append-left first.slots (all_slots rest) there.slot there.here; same = there.same }
      | inr later ↦
          let more = slot_added leave align (end_of (file_part first.header)) (end_of (memory_part first.header)) ns sections x here later in
          record { slot = more.slot; here = append-right first.slots (all_slots rest) more.slot more.here; same = more.same }
    ])

-- each number of a list is there once
once : (ns : List ℕ) (n : ℕ) → Has n ns → Has n (each_once ns)
unfolding each_once
once [] n h = absurd (has_none n h)
once (m ∷ ms) n h = elim (has_cases n m ms h) [
  | inl same ↦ has_same n m (filter (λ k. not (k == m)) (each_once ms)) same
  | inr later ↦ elim (cases_eq n m) [
    | inl same ↦ has_same n m (filter (λ k. not (k == m)) (each_once ms)) (sym same)
    | inr other ↦
        has_there n m (filter (λ k. not (k == m)) (each_once ms))
        (filter-from (λ k. not (k == m)) (each_once ms) n (once ms n later) (not_from_false (n == m) (ne_eqb n m other)))
  ]
]

-- ## Those of a plan

module _ (r : Resized) (moved : List ℕ) where
  pub is_added : (load : AddedLoad) → Has load (added_loads r moved) → IsAdded (kept_end r moved) (memory_end r) (sections_at r moved) load
  unfolding added_loads
  is_added load h = added_at r.image.moves_dynamic (load_alignment r.read r.image) (kept_end r moved) (memory_end r) (added_flags r moved) (sections_at r moved) load h

  pub added_apart : Pairs StandsBefore (added_loads r moved)
  unfolding added_loads
  added_apart = added_pairs r.image.moves_dynamic (load_alignment r.read r.image) (kept_end r moved) (memory_end r) (added_flags r moved) (sections_at r moved)

  pub length-added : length (added_loads r moved) ≡ length (added_flags r moved)
  unfolding added_loads
  length-added = length-loads r.image.moves_dynamic (load_alignment r.read r.image) (kept_end r moved) (memory_end r) (added_flags r moved) (sections_at r moved)

  slot_exists : (s : SizedSection) → Has s (sections_at r moved) → SlotThere (all_slots (added_loads r moved)) s.kept.position
  unfolding added_loads
  slot_exists s h = slot_added r.image.moves_dynamic (load_alignment r.read r.image) (kept_end r moved) (memory_end r) (added_flags r moved) (sections_at r moved) s h
      (once (map (λ x. flags_for r.image.moves_dynamic x.kept.section) (sections_at r moved)) (flags_for r.image.moves_dynamic s.kept.section)
      (map-from (λ x. flags_for r.image.moves_dynamic x.kept.section) (sections_at r moved) s h))

  -- where a section moves
  pub record IsMovedTo (s : SizedSection) (slot : Slot) : Type 0 where
    pub load : AddedLoad
    pub here : Has load (added_loads r moved)
    pub among : Has slot load.slots
    pub position : slot.position ≡ s.kept.position
    pub size : slot.size ≡ s.size

  pub moved_to : (s : SizedSection) (slot : Slot) → Has s (sized_sections r) → slot_of r moved s ≡ Some slot → IsMovedTo s slot
  moved_to s slot s_here h =
      let found = find-at (λ x. x.position == s.kept.position) (all_slots (added_loads r moved)) slot h in
      let at = flat_map-at (λ load. load.slots) (added_loads r moved) slot found.0 in
      let same : slot.position ≡ s.kept.position = eqb-true slot.position s.kept.position found.1 in
      let source = (is_added at.source at.here).sources slot at.among in
      let given = filter_map-at (λ position. slice_get (sized_sections r) position) moved source.section source.here in
      let there = slice_get-at (sized_sections r) given.source source.section given.given in
      let one : source.section ≡ s = same_section r source.section s there s_here (sym source.position ∙ same) in
      record { load = at.source; here = at.here; among = at.among; position = same; size = source.size ∙ ap (λ (x : SizedSection). x.size) one }

  -- a section without a slot doesn't move
  pub stays : (s : SizedSection) → Has s (sized_sections r) → slot_of r moved s ≡ None → is_one_of moved s.kept.position ≡ false
  stays s s_here none = false_from_ne_true (is_one_of moved s.kept.position) (λ among.
      let found = any-at (λ x. x == s.kept.position) moved among in
      let same : found.element ≡ s.kept.position = eqb-true found.element s.kept.position found.passes in
      let given : slice_get (sized_sections r) found.element ≡ Some s = ap (λ (i : ℕ). slice_get (sized_sections r) i) same
      ∙ at_position r s s_here in
      let there = slot_exists s (filter_map-from (λ position. slice_get (sized_sections r) position) moved found.element s found.here given) in
      both_ways (there.slot.position == s.kept.position)
      (find-none (λ x. x.position == s.kept.position) (all_slots (added_loads r moved)) none there.slot there.here)
      (eq-eqb there.slot.position s.kept.position there.same))
