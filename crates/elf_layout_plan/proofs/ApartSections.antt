-- The sections of an image by their positions, and the slots of those that move.
use Rattle.std.proofs.Common.{◌≡◌, ℕ, zero, suc, ◌+◌, ◌-◌, ◌%◌, Bool, true, false, not, ◌||◌, ◌⊎◌, List, [], ◌∷◌, map, refl, sym, ap, ◌∙◌, subst, inl, inr, arith, Some}
use Rattle.std.specs.Prelude.{◌==◌, filter}
use Rattle.std.specs.Int.{next_multiple_of}
use Rattle.std.specs.List.{list_any, flat_map, slice_get}
use Rattle.std.proofs.lemmas.Bool.{false≢true, eq-eqb, eqb-true, or_cases}
use Rattle.std.proofs.lemmas.List.Folds.{list_any-append}
use Rattle.std.proofs.lemmas.Option.{none-some, same_Some}
use Rattle.elf_format.specs.Image.{ImageSection}
use Rattle.elf_format.specs.Options.{is_one_of}
use Rattle.elf_format.specs.Placement.{file_part, memory_part}
use Rattle.elf_format.specs.Ranges.{end_of}
use Rattle.elf_layout_plan.specs.Added.{AddedLoad, Slot, added_loads, alignment_of, kept_end, load_alignment, load_at, loads_from, memory_end, slots_from}
use Rattle.elf_tables.specs.Kept.{KeptSection, kept_from, kept_sections}
use Rattle.elf_layout_plan.specs.Memory.{Resized, SizedSection, sized_from, sized_sections}
use Rattle.elf_layout_plan.specs.Rounds.{added_flags, each_once, flags_for, sections_at}
use Rattle.elf_layout_plan.specs.Sizes.{new_size}
use Rattle.elf_layout_plan.proofs.ApartLists.{Each, Some_in, any-at, any-from, at-filter, at-filter_map, at-map, each-append, each-filter, each-filter_map, each-from, each-more, map-at}

-- a section with its new size
abbrev pub sized_of : Resized → KeptSection → SizedSection
sized_of r k = record { kept = k; size = new_size r.read r.image k }

pub sized_from-map : (f : KeptSection → ℕ) (ks : List KeptSection) → sized_from ks (map f ks) ≡ map (λ k. record { kept = k; size = f k }) ks
sized_from-map f [] = refl
sized_from-map f (k ∷ ks) = ap (λ (ts : List SizedSection). record { kept = k; size = f k } ∷ ts) (sized_from-map f ks)

pub kept-at : (p : ℕ) (ns : List ℕ) (ss : List ImageSection) (i : ℕ) (k : KeptSection) → slice_get (kept_from p ns ss) i ≡ Some k
    → (k.position ≡ p + i) × (slice_get ns i ≡ Some k.number) × (slice_get ss i ≡ Some k.section)
kept-at p [] ss i k at = absurd (none-some k at)
kept-at p (n ∷ ns) [] i k at = absurd (none-some k at)
kept-at p (n ∷ ns) (s ∷ ss) zero k at =
    let same : record { position = p; number = n; section = s } ≡ k = same_Some (record { position = p; number = n; section = s }) k at in
    let position : p ≡ k.position = ap (λ (x : KeptSection). x.position) same in
    (omega arith, ap (λ (x : KeptSection). Some x.number) same, ap (λ (x : KeptSection). Some x.section) same)
kept-at p (n ∷ ns) (s ∷ ss) (suc i) k at =
    let (position, number, section) = kept-at (p + 1) ns ss i k at in
    (omega (arith, position), number, section)

-- a section's slot, at an offset and an address
abbrev pub slot_at : SizedSection → ℕ → ℕ → Slot
slot_at s o a = record { position = s.kept.position; offset = o; address = a; size = s.size }

pub slots-each : (P : Slot → Type 0) (o a : ℕ) (ss : List SizedSection) → Each (λ s. (o a : ℕ) → P (slot_at s o a)) ss → Each P (slots_from o a ss)
unfolding slots_from
slots-each P o a [] h = tt
slots-each P o a (s ∷ ss) h =
    let at = next_multiple_of a (alignment_of s) in
    (h.0 (o + (at - a)) at, slots-each P (o + (at - a) + s.size) (at + s.size) ss h.1)

-- the slots of all loaded segments that are added
abbrev pub all_slots : List AddedLoad → List Slot
all_slots loads = flat_map (λ load. load.slots) loads

-- the sections that need these flags
abbrev pub with_flags : Bool → ℕ → List SizedSection → List SizedSection
with_flags leave flags ss = filter (λ s. flags_for leave s.kept.section == flags) ss

-- the first of the loaded segments that are added, and where the next one may begin
abbrev pub first_load : Bool → ℕ → ℕ → ℕ → ℕ → List SizedSection → AddedLoad
first_load leave align flags end memory ss = load_at align flags end (next_multiple_of memory align + end % align) (with_flags leave flags ss)

abbrev pub file_behind : AddedLoad → ℕ
file_behind load = end_of (file_part load.header)

abbrev pub memory_behind : AddedLoad → ℕ
memory_behind load = end_of (memory_part load.header)

pub loads-each : (P : Slot → Type 0) (leave : Bool) (align end memory : ℕ) (flags : List ℕ) (ss : List SizedSection) → Each (λ s. (o a : ℕ) → P (slot_at s o a)) ss
    → Each P (all_slots (loads_from leave align end memory flags ss))
unfolding loads_from
loads-each P leave align end memory [] ss h = tt
loads-each P leave align end memory (f ∷ more) ss h =
    let load = first_load leave align f end memory ss in
    each-append P load.slots (all_slots (loads_from leave align (file_behind load) (memory_behind load) more ss))
    (slots-each P end load.header.p_vaddr (with_flags leave f ss) (each-more (λ s. ((flags_for leave s.kept.section == f) ≡ true) × ((o a : ℕ) → P (slot_at s o a))) (λ s. (o a : ℕ) → P (slot_at s o a)) (λ s k. k.1) (with_flags leave f ss)
    (each-filter (λ s. (o a : ℕ) → P (slot_at s o a)) (λ s. flags_for leave s.kept.section == f) ss h)))
    (loads-each P leave align (file_behind load) (memory_behind load) more ss h)

-- a section among those that get slots has one
slots-any : (n o a : ℕ) (ss : List SizedSection) (i : ℕ) (t : SizedSection) → slice_get ss i ≡ Some t → t.kept.position ≡ n → list_any (λ x. x.position == n) (slots_from o a ss) ≡ true
unfolding slots_from
slots-any n o a [] i t at e = absurd (none-some t at)
slots-any n o a (s ∷ ss) zero t at e =
    let at_s = next_multiple_of a (alignment_of s) in
    ap (λ b. b || list_any (λ x. x.position == n) (slots_from (o + (at_s - a) + s.size) (at_s + s.size) ss)) (eq-eqb s.kept.position n (ap (λ (x : SizedSection). x.kept.position) (same_Some s t at) ∙ e))
slots-any n o a (s ∷ ss) (suc i) t at e =
    let at_s = next_multiple_of a (alignment_of s) in
    or_true (s.kept.position == n) (list_any (λ x. x.position == n) (slots_from (o + (at_s - a) + s.size) (at_s + s.size) ss)) (slots-any n (o + (at_s - a) + s.size) (at_s + s.size) ss i t at e)
  where
    or_true : (b c : Bool) → c ≡ true → (b || c) ≡ true
    or_true true c h = refl
    or_true false c h = h

loads-any : (n : ℕ) (leave : Bool) (align end memory : ℕ) (flags : List ℕ) (ss : List SizedSection) (i : ℕ) (t : SizedSection) → slice_get ss i ≡ Some t → t.kept.position ≡ n
    → list_any (λ f. f == flags_for leave t.kept.section) flags ≡ true → list_any (λ x. x.position == n) (all_slots (loads_from leave align end memory flags ss)) ≡ true
unfolding loads_from
loads-any n leave align end memory [] ss i t at e among = absurd (false≢true among)
loads-any n leave align end memory (f ∷ more) ss i t at e among =
    let load = first_load leave align f end memory ss in
    let others = all_slots (loads_from leave align (file_behind load) (memory_behind load) more ss) in
    list_any-append (λ x. x.position == n) load.slots others
    ∙ either (list_any (λ x. x.position == n) load.slots) (list_any (λ x. x.position == n) others) (elim (or_cases (f == flags_for leave t.kept.section) (list_any (λ g. g == flags_for leave t.kept.section) more) among) [
      | inl here ↦
          let kept : (j : ℕ) × (slice_get (with_flags leave f ss) j ≡ Some t) = at-filter (λ s. flags_for leave s.kept.section == f) ss i t at (eq-eqb (flags_for leave t.kept.section) f (sym (eqb-true f (flags_for leave t.kept.section) here))) in
          inl (slots-any n end load.header.p_vaddr (with_flags leave f ss) kept.0 t kept.1 e)
      | inr behind ↦ inr (loads-any n leave align (file_behind load) (memory_behind load) more ss i t at e behind)
    ])
  where
    either : (b c : Bool) → (b ≡ true) ⊎ (c ≡ true) → (b || c) ≡ true
    either true c h = refl
    either false c (inl h) = absurd (false≢true h)
    either false c (inr h) = h

-- each number of a list is among those that come once
once-any : (n : ℕ) (ns : List ℕ) (i : ℕ) → slice_get ns i ≡ Some n → list_any (λ m. m == n) (each_once ns) ≡ true
unfolding each_once
once-any n [] i at = absurd (none-some n at)
once-any n (m ∷ ns) zero at = ap (λ b. b || list_any (λ x. x == n) (filter (λ x. not (x == m)) (each_once ns))) (eq-eqb m n (same_Some m n at))
once-any n (m ∷ ns) (suc i) at = by_same (m == n) refl (any-at (λ x. x == n) (each_once ns) (once-any n ns i at))
  where
    unlike : (x : ℕ) → x ≡ n → (m == n) ≡ false → not (x == m) ≡ true
    unlike x e other = ap (λ b. not b) (by_test (x == m) refl)
      where
        by_test : (b : Bool) → (x == m) ≡ b → b ≡ false
        by_test true h = absurd (false≢true (sym other ∙ eq-eqb m n (sym (eqb-true x m h) ∙ e)))
        by_test false h = refl

    by_same : (b : Bool) → (m == n) ≡ b → Some_in (λ x. (x == n) ≡ true) (each_once ns) → (b || list_any (λ x. x == n) (filter (λ x. not (x == m)) (each_once ns))) ≡ true
    by_same true h found = refl
    by_same false h (j, x, at_j, same) =
        let kept : (k : ℕ) × (slice_get (filter (λ x. not (x == m)) (each_once ns)) k ≡ Some x) = at-filter (λ x. not (x == m)) (each_once ns) j x at_j (unlike x (eqb-true x n same) h) in
        any-from (λ x. x == n) (filter (λ x. not (x == m)) (each_once ns)) kept.0 x kept.1 same

module _ (r : Resized) (sized : sized_sections r ≡ map (sized_of r) (kept_sections r.image)) where
  -- a section by its position
  pub sized-at : (i : ℕ) (t : SizedSection) → slice_get (sized_sections r) i ≡ Some t
      → (t.kept.position ≡ i) × (slice_get (kept_sections r.image) i ≡ Some t.kept) × (sized_of r t.kept ≡ t)
  sized-at i t at =
      let there : slice_get (map (sized_of r) (kept_sections r.image)) i ≡ Some t = subst (λ (l : List SizedSection). slice_get l i ≡ Some t) sized at in
      let (k, at_k, same) = map-at (sized_of r) (kept_sections r.image) i t there in
      let same_kept : k ≡ t.kept = ap (λ (x : SizedSection). x.kept) same in
      let kept : slice_get (kept_sections r.image) i ≡ Some t.kept = at_k ∙ ap (λ (x : KeptSection). Some x) same_kept in
      let position : t.kept.position ≡ 0 + i = (kept-at 0 r.image.section_numbers r.image.sections i t.kept kept).0 in
      (omega arith, kept, ap (sized_of r) (sym same_kept) ∙ same)

  pub at-sized : (i : ℕ) (k : KeptSection) → slice_get (kept_sections r.image) i ≡ Some k → slice_get (sized_sections r) i ≡ Some (sized_of r k)
  at-sized i k at = subst (λ (l : List SizedSection). slice_get l i ≡ Some (sized_of r k)) (sym sized) (at-map (sized_of r) (kept_sections r.image) i k at)

  module _ (moved : List ℕ) where
    -- what is known of a slot: whose it is, and that the section moves
    abbrev pub IsSlot : Slot → Type 0
    IsSlot x = (is_one_of moved x.position ≡ true) × ((t : SizedSection) × (slice_get (sized_sections r) x.position ≡ Some t) × (t.size ≡ x.size))

    -- a section that moves
    abbrev pub IsMoved : SizedSection → Type 0
    IsMoved t = (is_one_of moved t.kept.position ≡ true) × (slice_get (sized_sections r) t.kept.position ≡ Some t)

    pub sections_move : Each IsMoved (sections_at r moved)
    sections_move =
        each-filter_map IsMoved (λ position. slice_get (sized_sections r) position) moved
        (each-from (λ n. (t : SizedSection) → slice_get (sized_sections r) n ≡ Some t → IsMoved t) moved (λ i n at t at_t.
        let same : t.kept.position ≡ n = (sized-at n t at_t).0 in
        (any-from (λ x. x == t.kept.position) moved i n at (eq-eqb n t.kept.position (sym same)), subst (λ (m : ℕ). slice_get (sized_sections r) m ≡ Some t) (sym same) at_t)))

    pub slots_move : Each IsSlot (all_slots (added_loads r moved))
    unfolding added_loads
    slots_move =
        loads-each IsSlot r.image.moves_dynamic (load_alignment r.read r.image) (kept_end r moved) (memory_end r) (added_flags r moved) (sections_at r moved)
        (each-more IsMoved (λ s. (o a : ℕ) → IsSlot (slot_at s o a)) (λ t h o a. (h.0, (t, h.1, refl))) (sections_at r moved) sections_move)

    -- each section that moves has a slot
    pub moved_has_slot : (t : SizedSection) → slice_get (sized_sections r) t.kept.position ≡ Some t → is_one_of moved t.kept.position ≡ true
        → list_any (λ x. x.position == t.kept.position) (all_slots (added_loads r moved)) ≡ true
    unfolding added_loads
    moved_has_slot t at among =
        let (i, n, at_i, same) = any-at (λ x. x == t.kept.position) moved among in
        let at_n : slice_get (sized_sections r) n ≡ Some t = subst (λ (m : ℕ). slice_get (sized_sections r) m ≡ Some t) (sym (eqb-true n t.kept.position same)) at in
        let picked : (j : ℕ) × (slice_get (sections_at r moved) j ≡ Some t) = at-filter_map (λ position. slice_get (sized_sections r) position) moved i n t at_i at_n in
        loads-any t.kept.position r.image.moves_dynamic (load_alignment r.read r.image) (kept_end r moved) (memory_end r) (added_flags r moved) (sections_at r moved) picked.0 t picked.1 refl
        (once-any (flags_for r.image.moves_dynamic t.kept.section) (map (λ s. flags_for r.image.moves_dynamic s.kept.section) (sections_at r moved)) picked.0 (at-map (λ s. flags_for r.image.moves_dynamic s.kept.section) (sections_at r moved) picked.0 t picked.1))
