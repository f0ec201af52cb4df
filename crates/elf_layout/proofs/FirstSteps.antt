-- A segment that is added has a section, which stands nowhere else: so an address of the segment that doesn't fit is one of that
-- section's.
use Rattle.std.proofs.Common.{◌≡◌, ◌≢◌, ℕ, ◌+◌, ◌-◌, ◌^◌, ◌≤◌, inl, inr, List, [], ◌∷◌, ◌++◌, Bool, true, false, not, ◌||◌, cond, Option, Some, None, map, refl, sym, ap, ◌∙◌, subst, arith}
use Rattle.std.specs.Prelude.{◌==◌, filter, find, slice_get}
use Rattle.std.specs.List.{cons_option, flat_map}
use Rattle.std.specs.Option.{option_map, option_or}
use Rattle.std.proofs.lemmas.Bool.{cases_eq, eq-eqb, eqb-false, ne_eqb}
use Rattle.std.proofs.lemmas.List.{map-append}
use Rattle.std.proofs.lemmas.List.Concat.{flat_map-append}
use Rattle.std.proofs.lemmas.List.Folds.{find-append}
use Rattle.std.proofs.lemmas.Option.{slice_get-map}
use Rattle.elf_format.specs.Places.{Place}
use Rattle.elf_layout_plan.specs.Added.{AddedLoad, Slot, added_loads, alignment_of, kept_end, load_alignment, loads_from, memory_end, slots_from}
use Rattle.elf_layout_plan.specs.Memory.{Resized, SizedSection, sized_sections}
use Rattle.elf_layout_plan.specs.Rounds.{added_flags, each_once, flags_for, sections_at}
use Rattle.elf_layout_plan.specs.Standing.{unloaded_slot_of, place_in, places, stands_at}
use Rattle.elf_layout.specs.declared.slots.At.{At}
use Rattle.elf_layout.specs.Inner.{IsPastField}
use Rattle.elf_layout.specs.Slots.{IsFar, aligned, end_behind, start_of_load, with_flags}
use Rattle.elf_layout.proofs.SlotSteps.{own_position}
use Rattle.elf_layout.proofs.FlagSteps.{has, without_number}
use Rattle.elf_layout.proofs.LoadSteps.{load_of, slots_of}
use Rattle.elf_layout.proofs.FarSteps.{next_above, past_load_end, past_place, place_as, placed_as}

-- ## Each set of flags once

or_parts : (x y : Bool) → (x || y) ≡ false → (x ≡ false) × (y ≡ false)
or_parts true y fails = let none : ⊥ = cc fails in absurd none
or_parts false y fails = (refl, fails)

or_false : (x y : Bool) → x ≡ false → y ≡ false → (x || y) ≡ false
or_false x y a b = rw a b

abbrev Distinct : List ℕ → Type 0
Distinct [] = Unit {0}
Distinct (n ∷ ns) = (has n ns ≡ false) × Distinct ns

-- what isn't there isn't among fewer
has_fewer : (m n : ℕ) (ns : List ℕ) → has n ns ≡ false → has n (without_number m ns) ≡ false
has_fewer m n [] fails = refl
has_fewer m n (k ∷ ns) fails =
    let parts = or_parts (k == n) (has n ns) fails in
    let less : has n (without_number m ns) ≡ false = has_fewer m n ns parts.1 in
    elim (not (k == m)) as (λ b. has n (cond b (k ∷ without_number m ns) (without_number m ns)) ≡ false) [
      | true ↦ or_false (k == n) (has n (without_number m ns)) parts.0 less
      | false ↦ less
    ]

-- what is left out isn't there
has_no_more : (m : ℕ) (ns : List ℕ) → has m (without_number m ns) ≡ false
has_no_more m [] = refl
has_no_more m (k ∷ ns) = elim (cases_eq k m) [
  | inl same ↦ rw (eq-eqb k m same) (has_no_more m ns)
  | inr other ↦ rw (ne_eqb k m other) (or_false _ _ (ne_eqb k m other) (has_no_more m ns))
]

others_distinct : (m : ℕ) (ns : List ℕ) → Distinct ns → Distinct (without_number m ns)
others_distinct m [] d = tt
others_distinct m (k ∷ ns) d = elim (not (k == m)) as (λ b. Distinct (cond b (k ∷ without_number m ns) (without_number m ns))) [
  | true ↦ (has_fewer m k ns d.0, others_distinct m ns d.1)
  | false ↦ others_distinct m ns d.1
]

once_distinct : (ns : List ℕ) → Distinct (each_once ns)
unfolding each_once
once_distinct [] = tt
once_distinct (n ∷ ns) = (has_no_more n (each_once ns), others_distinct n (each_once ns) (once_distinct ns))

has_middle : (n : ℕ) (xs : List ℕ) (f : ℕ) (ys : List ℕ) → has n (xs ++ f ∷ ys) ≡ false → f ≢ n
has_middle n [] f ys fails = eqb-false f n (or_parts (f == n) (has n ys) fails).0
has_middle n (x ∷ xs) f ys fails = has_middle n xs f ys (or_parts (x == n) (has n (xs ++ f ∷ ys)) fails).1

distinct_before : (xs : List ℕ) (f : ℕ) (ys : List ℕ) → Distinct (xs ++ f ∷ ys) → has f xs ≡ false
distinct_before [] f ys d = refl
distinct_before (x ∷ xs) f ys d =
    or_false _ _ (ne_eqb x f (λ same. has_middle x xs f ys d.0 (sym same))) (distinct_before xs f ys d.1)

-- flags that no section needs are no set
none_once : (f : ℕ) (ns : List ℕ) → has f ns ≡ false → has f (each_once ns) ≡ false
unfolding each_once
none_once f [] fails = refl
none_once f (n ∷ ns) fails =
    let parts = or_parts (n == f) (has f ns) fails in
    or_false _ _ parts.0 (has_fewer n f (each_once ns) (none_once f ns parts.1))

none_has : (leave : Bool) (f : ℕ) (ss : List SizedSection) → filter (λ s. flags_for leave s.kept.section == f) ss ≡ []
    → has f (map (λ s. flags_for leave s.kept.section) ss) ≡ false
none_has leave f [] none = refl
none_has leave f (s ∷ ss) none = elim (cases_eq (flags_for leave s.kept.section) f) [
  | inl same ↦
      let kept : s ∷ filter (λ s. flags_for leave s.kept.section == f) ss ≡ [] = rw (eq-eqb (flags_for leave s.kept.section) f same) at none in
      let no : ⊥ = cc kept in absurd no
  | inr other ↦
      let left : filter (λ s. flags_for leave s.kept.section == f) ss ≡ [] = rw (ne_eqb (flags_for leave s.kept.section) f other) at none in
      or_false _ _ (ne_eqb (flags_for leave s.kept.section) f other) (none_has leave f ss left)
]

-- ## What stands at a position

abbrev flags_found : Bool → Option SizedSection → ℕ
flags_found leave None = 0
flags_found leave (Some s) = flags_for leave s.kept.section

-- the flags that the section at a position needs
abbrev flags_at : Resized → ℕ → ℕ
flags_at r p = flags_found r.image.moves_dynamic (slice_get (sized_sections r) p)

-- the section stands at its position, and needs the flags
record IsOf (r : Resized) (f : ℕ) (s : SizedSection) : Type 0 where
  own : slice_get (sized_sections r) s.kept.position ≡ Some s
  flags : flags_for r.image.moves_dynamic s.kept.section ≡ f

abbrev SectionsOf : Resized → ℕ → List SizedSection → Type 0
SectionsOf r f [] = Unit {0}
SectionsOf r f (s ∷ ss) = IsOf r f s × SectionsOf r f ss

sections_tested : (r : Resized) (f p : ℕ) (rest : List SizedSection) (o : Option SizedSection) → slice_get (sized_sections r) p ≡ o
    → SectionsOf r f (filter (λ s. flags_for r.image.moves_dynamic s.kept.section == f) rest)
    → SectionsOf r f (filter (λ s. flags_for r.image.moves_dynamic s.kept.section == f) (cons_option o rest))
sections_tested r f p rest None there are = are
sections_tested r f p rest (Some s) there are = elim (cases_eq (flags_for r.image.moves_dynamic s.kept.section) f) [
  | inl same ↦
      let own : slice_get (sized_sections r) s.kept.position ≡ Some s =
      ap (λ (q : ℕ). slice_get (sized_sections r) q) (own_position r p s there) ∙ there in
      let is : IsOf r f s = record { own = own; flags = same } in
      rw (eq-eqb (flags_for r.image.moves_dynamic s.kept.section) f same) (is, are)
  | inr other ↦ rw (ne_eqb (flags_for r.image.moves_dynamic s.kept.section) f other) are
]

sections_of : (r : Resized) (f : ℕ) (positions : List ℕ) → SectionsOf r f (with_flags r f positions)
sections_of r f [] = tt
sections_of r f (p ∷ ps) = sections_tested r f p (sections_at r ps) (slice_get (sized_sections r) p) refl (sections_of r f ps)

abbrev SlotsOf : Resized → ℕ → List Slot → Type 0
SlotsOf r f [] = Unit {0}
SlotsOf r f (x ∷ xs) = (flags_at r x.position ≡ f) × SlotsOf r f xs

slots_are_of : (r : Resized) (f : ℕ) (at : At) (ss : List SizedSection) → SectionsOf r f ss
    → SlotsOf r f (slots_from at.offset at.address ss)
unfolding slots_from
slots_are_of r f at [] are = tt
slots_are_of r f at (s ∷ ss) are = (ap (flags_found r.image.moves_dynamic) are.0.own ∙ are.0.flags, slots_are_of r f (end_behind at s) ss are.1)

abbrev flags_of_load : AddedLoad → ℕ
flags_of_load load = load.header.p_flags

abbrev LoadsOf : Resized → List AddedLoad → Type 0
LoadsOf r [] = Unit {0}
LoadsOf r (l ∷ ls) = SlotsOf r (flags_of_load l) l.slots × LoadsOf r ls

loads_are_of : (r : Resized) (moved : List ℕ) (align : ℕ) (sets : List ℕ) (end memory : ℕ)
    → LoadsOf r (loads_from r.image.moves_dynamic align end memory sets (sections_at r moved))
unfolding loads_from
loads_are_of r moved align [] end memory = tt
loads_are_of r moved align (f ∷ sets) end memory = (
  slots_are_of r f (record { offset = end; address = start_of_load align end memory }) (with_flags r f moved) (sections_of r f moved),
  loads_are_of r moved align sets _ _,
)

-- one segment for each set
sets_of_loads : (r : Resized) (moved : List ℕ) (align : ℕ) (sets : List ℕ) (end memory : ℕ)
    → map flags_of_load (loads_from r.image.moves_dynamic align end memory sets (sections_at r moved)) ≡ sets
unfolding loads_from
sets_of_loads r moved align [] end memory = refl
sets_of_loads r moved align (f ∷ sets) end memory = ap (λ (l : List ℕ). f ∷ l) (sets_of_loads r moved align sets _ _)

loads_before : (r : Resized) (before after : List AddedLoad) → LoadsOf r (before ++ after) → LoadsOf r before
loads_before r [] after are = tt
loads_before r (l ∷ before) after are = (are.0, loads_before r before after are.1)

abbrev at_position : ℕ → Slot → Bool
at_position p x = x.position == p

not_in_slots : (r : Resized) (f p : ℕ) (xs : List Slot) → SlotsOf r f xs → flags_at r p ≢ f → find (at_position p) xs ≡ None
not_in_slots r f p [] are apart = refl
not_in_slots r f p (x ∷ xs) are apart =
    let other : (x.position == p) ≡ false = ne_eqb x.position p (λ same. apart (ap (flags_at r) (sym same) ∙ are.0)) in
    rw other (not_in_slots r f p xs are.1 apart)

not_in_loads : (r : Resized) (p : ℕ) (ls : List AddedLoad) → LoadsOf r ls → has (flags_at r p) (map flags_of_load ls) ≡ false
    → find (at_position p) (flat_map slots_of ls) ≡ None
not_in_loads r p [] are apart = refl
not_in_loads r p (l ∷ ls) are apart =
    let parts = or_parts (flags_of_load l == flags_at r p) (has (flags_at r p) (map flags_of_load ls)) apart in
    let here : find (at_position p) l.slots ≡ None =
    not_in_slots r (flags_of_load l) p l.slots are.0 (λ same. eqb-false (flags_of_load l) (flags_at r p) parts.0 (sym same)) in
    find-append (at_position p) l.slots (flat_map slots_of ls)
    ∙ ap (λ (o : Option Slot). option_or o (find (at_position p) (flat_map slots_of ls))) here
    ∙ not_in_loads r p ls are.1 parts.1

all_sets : (r : Resized) (moved : List ℕ) → map flags_of_load (added_loads r moved) ≡ added_flags r moved
unfolding added_loads
all_sets r moved = sets_of_loads r moved (load_alignment r.read r.image) (added_flags r moved) (kept_end r moved) (memory_end r)

all_are_of : (r : Resized) (moved : List ℕ) → LoadsOf r (added_loads r moved)
unfolding added_loads
all_are_of r moved = loads_are_of r moved (load_alignment r.read r.image) (added_flags r moved) (kept_end r moved) (memory_end r)

-- ## The first section of a segment

-- the section stands where the first slot at its position is
slot_place : (r : Resized) (moved : List ℕ) (s : SizedSection) (x : Slot)
    → find (at_position s.kept.position) (flat_map slots_of (added_loads r moved)) ≡ Some x
    → place_in r moved s ≡ stands_at s x.offset x.address
slot_place r moved s x there = place_as r moved s ∙ ap (λ (o : Option Slot). placed_as r moved s o (unloaded_slot_of r moved s)) there

place_there : (r : Resized) (moved : List ℕ) (p : ℕ) (s : SizedSection) → slice_get (sized_sections r) p ≡ Some s
    → slice_get (places r moved) p ≡ Some (place_in r moved s)
unfolding places
place_there r moved p s there = slice_get-map (place_in r moved) (sized_sections r) p ∙ ap (option_map (place_in r moved)) there

-- where the first of sections stands
first_slot : (at : At) (s : SizedSection) (ss : List SizedSection)
    → (x : Slot) × ((rest : List Slot) × (slots_from at.offset at.address (s ∷ ss) ≡ x ∷ rest)) × (x.position ≡ s.kept.position) ×
    (at.address ≤ x.address)
unfolding slots_from
first_slot at s ss =
    let x : Slot = record {
      position = s.kept.position;
      offset = at.offset + (aligned at s - at.address);
      address = aligned at s;
      size = s.size;
    } in
    (x, (slots_from (end_behind at s).offset (end_behind at s).address ss, refl), refl, next_above at.address (alignment_of s))

module _ (r : Resized) (moved : List ℕ) (at : At) (f : ℕ) (before after : List AddedLoad)
    (all : added_loads r moved ≡ before ++ load_of r moved at f ∷ after) where
  sets : added_flags r moved ≡ map flags_of_load before ++ f ∷ map flags_of_load after
  sets = sym (all_sets r moved) ∙ ap (map flags_of_load) all ∙ map-append flags_of_load before (load_of r moved at f ∷ after)

  -- some section needs the flags
  some_needs : with_flags r f moved ≢ []
  some_needs none =
      let nowhere : has f (added_flags r moved) ≡ false =
      none_once f (map (λ s. flags_for r.image.moves_dynamic s.kept.section) (sections_at r moved)) (none_has r.image.moves_dynamic f (sections_at r moved) none) in
      has_middle f (map flags_of_load before) f (map flags_of_load after) (subst (λ (l : List ℕ). has f l ≡ false) sets nowhere) refl

  -- no segment before has a section with the flags
  none_before : has f (map flags_of_load before) ≡ false
  none_before = distinct_before (map flags_of_load before) f (map flags_of_load after)
      (subst Distinct sets (once_distinct (map (λ s. flags_for r.image.moves_dynamic s.kept.section) (sections_at r moved))))

  far_at : (ss : List SizedSection) → with_flags r f moved ≡ ss → 2 ^ 64 ≤ (load_of r moved at f).header.p_vaddr → IsPastField r moved
  far_at [] is far = absurd (some_needs is)
  far_at (s ∷ ss) is far =
      let start : At = record { offset = at.offset; address = start_of_load (load_alignment r.read r.image) at.offset at.address } in
      let first = first_slot start s ss in
      let x : Slot = first.0 in
      let p : ℕ = s.kept.position in
      let are : SectionsOf r f (s ∷ ss) = subst (SectionsOf r f) is (sections_of r f moved) in
      let needs : flags_at r p ≡ f = ap (flags_found r.image.moves_dynamic) are.0.own ∙ are.0.flags in
      let rest : List Slot = first.1.0 ++ flat_map slots_of after in
      let here : (load_of r moved at f).slots ++ flat_map slots_of after ≡ x ∷ rest =
      ap (λ (l : List SizedSection). slots_from start.offset start.address l ++ flat_map slots_of after) is
      ∙ ap (λ (l : List Slot). l ++ flat_map slots_of after) first.1.1 in
      let clear : find (at_position p) (flat_map slots_of before) ≡ None =
      not_in_loads r p before (loads_before r before (load_of r moved at f ∷ after) (subst (LoadsOf r) all (all_are_of r moved)))
      (ap (λ (n : ℕ). has n (map flags_of_load before)) needs ∙ none_before) in
      let own : at_position p x ≡ true = eq-eqb x.position p first.2 in
      let found : find (at_position p) (flat_map slots_of (added_loads r moved)) ≡ Some x =
      ap (λ (l : List AddedLoad). find (at_position p) (flat_map slots_of l)) all
      ∙ ap (find (at_position p)) (flat_map-append slots_of before (load_of r moved at f ∷ after))
      ∙ find-append (at_position p) (flat_map slots_of before) ((load_of r moved at f).slots ++ flat_map slots_of after)
      ∙ ap (λ (o : Option Slot). option_or o (find (at_position p) ((load_of r moved at f).slots ++ flat_map slots_of after))) clear
      ∙ ap (find (at_position p)) here
      ∙ ap (λ (b : Bool). cond b (Some x) (find (at_position p) rest)) own in
      let place : place_in r moved s ≡ stands_at s x.offset x.address = slot_place r moved s x found in
      let above : 2 ^ 64 ≤ x.address = omega (arith, far, first.3) in
      past_place r moved p (place_in r moved s) (place_there r moved p s are.0.own)
      (subst (λ (q : Place). 2 ^ 64 ≤ q.sh_addr) (sym place) above)

  -- a segment that is too far in memory or in the file
  pub past_load : IsFar (load_of r moved at f) → IsPastField r moved
  past_load (inl far) = far_at (with_flags r f moved) refl far
  past_load (inr far) = past_load_end r moved before after (load_of r moved at f) all far
