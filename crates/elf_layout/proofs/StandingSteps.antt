-- What the code keeps by positions is what the definitions find.
use Rattle.std.proofs.Common.{Global, Vec, ◌≡◌, ◌≢◌, ℕ, ◌+◌, ◌*◌, ◌^◌, ◌<◌, ◌≤◌, inl, inr, List, [], ◌∷◌, Bool, true, false, cond, Option, Some, None, length, map, replicate, get_or, set, length-set, zero, suc, refl, sym, ap, ◌∙◌, subst, arith}
use Rattle.std.specs.Prelude.{◌==◌, filter, find, max, is_some, slice_get}
use Rattle.std.specs.Int.{next_multiple_of}
use Rattle.std.specs.List.{flat_map}
use Rattle.std.specs.Option.{option_map, option_or}
use Rattle.std.proofs.lemmas.Bool.{cases_eq, eq-eqb, ne_eqb}
use Rattle.std.proofs.lemmas.List.{length-replicate}
use Rattle.std.proofs.lemmas.Option.{slice_get-get_or, slice_get_within}
use Rattle.elf_format.specs.Image.{ImageSection}
use Rattle.elf_format.specs.Places.{Place}
use Rattle.elf_format.specs.Records.{segment_header_size}
use Rattle.elf_layout_plan.specs.Added.{Slot, added_loads, alignment_of, greatest, header_count}
use Rattle.elf_image.specs.Kept.{kept_from}
use Rattle.elf_layout_plan.specs.Memory.{Resized, SizedSection, sized_from, sized_sections, table_load}
use Rattle.elf_layout_plan.specs.Standing.{UnloadedSlot, content_end, is_unloaded, unloaded_from, unloaded_slot_of, unloaded_slots, unloaded_start, next_table, place_in, places, sections_offset, segments_end, slot_of, table_offset}
use Rattle.elf_layout_plan.specs.declared.fault.LayoutFault.{LayoutFault}
use Rattle.elf_layout_plan.specs.declared.fault.LayoutFault.TheVariants as faults
use Rattle.elf_layout_plan.specs.declared.plan.SectionPlace.{SectionPlace}
use Rattle.elf_layout_plan.specs.PlanModel.{place_model}
use Rattle.elf_layout.specs.Inner.{IsStanding, StandsTooFar}
use Rattle.elf_layout.specs.declared.standing.Behind.{Behind}
use Rattle.elf_layout.specs.declared.standing.Standing.{Standing}
use Rattle.elf_layout.specs.declared.slots.At.{At}
use Rattle.elf_layout.specs.Unloaded.{IsBehind, IsBehindFault, content_behind, kept_for, unloaded_end, unloaded_next, unloaded_offsets, offsets_behind, place_by, places_behind, start_behind, table_behind}
use Rattle.elf_layout.specs.Slots.{at_of, is_free, none_yet, with_at, with_slots}
use Rattle.elf_layout.proofs.SlotSteps.{own_position}
use Rattle.elf_layout.proofs.FarSteps.{past_place, past_sections, place_as, placed_as, table_there}

-- ## Slots

abbrev at_position : ℕ → Slot → Bool
at_position p x = x.position == p

cond_length : (b : Bool) (kept : List (Option At)) (p : ℕ) (at : At) → length (cond b (set kept p (Some at)) kept) ≡ length kept
cond_length true kept p at = length-set kept p (Some at)
cond_length false kept p at = refl

with_at_length : (kept : List (Option At)) (p : ℕ) (at : At) → length (with_at kept p at) ≡ length kept
with_at_length kept p at = cond_length (is_free (slice_get kept p)) kept p at

other_kept : (kept : List (Option At)) (p q : ℕ) (x : Option At) → q ≢ p → slice_get (set kept p x) q ≡ slice_get kept q
other_kept [] p q x apart = refl
other_kept (k ∷ kept) zero zero x apart = absurd (apart refl)
other_kept (k ∷ kept) zero (suc q) x apart = refl
other_kept (k ∷ kept) (suc p) zero x apart = refl
other_kept (k ∷ kept) (suc p) (suc q) x apart = other_kept kept p q x (λ same. apart (ap suc same))

same_kept : (kept : List (Option At)) (p : ℕ) (x y : Option At) → slice_get kept p ≡ Some y → slice_get (set kept p x) p ≡ Some x
same_kept [] p x y there = let no : ⊥ = cc there in absurd no
same_kept (k ∷ kept) zero x y there = refl
same_kept (k ∷ kept) (suc p) x y there = same_kept kept p x y there

-- at another position
other_position : (kept : List (Option At)) (p q : ℕ) (at : At) (b : Bool) → q ≢ p
    → slice_get (cond b (set kept p (Some at)) kept) q ≡ slice_get kept q
other_position kept p q at true apart = other_kept kept p q (Some at) apart
other_position kept p q at false apart = refl

-- at the position itself: what was kept first stays
own_kept : (kept : List (Option At)) (p : ℕ) (at : At) (o : Option (Option At)) → slice_get kept p ≡ o → p < length kept
    → kept_for (slice_get (cond (is_free o) (set kept p (Some at)) kept) p) ≡ option_or (kept_for o) (Some at)
own_kept kept p at None there within =
    let is : slice_get kept p ≡ Some (get_or kept p None) = slice_get-get_or kept p None within in
    let no : ⊥ = cc (is, there) in absurd no
own_kept kept p at (Some None) there within = ap kept_for (same_kept kept p (Some at) None there)
own_kept kept p at (Some (Some a)) there within = ap kept_for there

option_or_some : (o : Option At) (at : At) (p : Option At) → option_or (option_or o (Some at)) p ≡ option_or o (Some at)
option_or_some None at p = refl
option_or_some (Some a) at p = refl

option_or_none : (o : Option At) → option_or o None ≡ o
option_or_none None = refl
option_or_none (Some a) = refl

-- what is kept for a position is the first slot there
pub slots_kept : (p : ℕ) (xs : List Slot) (kept : List (Option At)) → p < length kept
    → kept_for (slice_get (with_slots kept xs) p) ≡ option_or (kept_for (slice_get kept p)) (option_map at_of (find (at_position p) xs))
unfolding with_slots
slots_kept p [] kept within = sym (option_or_none (kept_for (slice_get kept p)))
slots_kept p (x ∷ xs) kept within =
    let more : List (Option At) = with_at kept x.position (at_of x) in
    let long : p < length more = omega (arith, with_at_length kept x.position (at_of x)) in
    let rest = slots_kept p xs more long in
    elim (cases_eq x.position p) [
      | inl same ↦
          let here : kept_for (slice_get more p) ≡ option_or (kept_for (slice_get kept p)) (Some (at_of x)) =
          ap (λ (q : ℕ). kept_for (slice_get (with_at kept q (at_of x)) p)) same
          ∙ own_kept kept p (at_of x) (slice_get kept p) refl within in
          let first : find (at_position p) (x ∷ xs) ≡ Some x =
          ap (λ (b : Bool). cond b (Some x) (find (at_position p) xs)) (eq-eqb x.position p same) in
          rest ∙ ap (λ (o : Option At). option_or o (option_map at_of (find (at_position p) xs))) here
          ∙ option_or_some (kept_for (slice_get kept p)) (at_of x) (option_map at_of (find (at_position p) xs))
          ∙ ap (λ (o : Option Slot). option_or (kept_for (slice_get kept p)) (option_map at_of o)) (sym first)
      | inr apart ↦
          let here : slice_get more p ≡ slice_get kept p =
          other_position kept x.position p (at_of x) (is_free (slice_get kept x.position)) (λ e. apart (sym e)) in
          let later : find (at_position p) (x ∷ xs) ≡ find (at_position p) xs =
          ap (λ (b : Bool). cond b (Some x) (find (at_position p) xs)) (ne_eqb x.position p apart) in
          rest ∙ ap (λ (o : Option (Option At)). option_or (kept_for o) (option_map at_of (find (at_position p) xs))) here
          ∙ ap (λ (o : Option Slot). option_or (kept_for (slice_get kept p)) (option_map at_of o)) (sym later)
    ]

none_kept : (n p : ℕ) → kept_for (slice_get (replicate {A = Option At} n None) p) ≡ None
none_kept zero p = refl
none_kept (suc n) zero = refl
none_kept (suc n) (suc p) = none_kept n p

-- ## Sections that aren't loaded

abbrev at_unloaded : ℕ → UnloadedSlot → Bool
at_unloaded p x = x.position == p

abbrev offset_of : UnloadedSlot → ℕ
offset_of x = x.offset

-- each stands at its position
abbrev AreNumbered : ℕ → List SizedSection → Type 0
AreNumbered p [] = Unit {0}
AreNumbered p (s ∷ ss) = (s.kept.position ≡ p) × AreNumbered (p + 1) ss

are_numbered : (p : ℕ) (ns : List ℕ) (ss : List ImageSection) (sizes : List ℕ) → AreNumbered p (sized_from (kept_from p ns ss) sizes)
are_numbered p [] ss sizes = tt
are_numbered p (n ∷ ns) [] sizes = tt
are_numbered p (n ∷ ns) (s ∷ ss) [] = tt
are_numbered p (n ∷ ns) (s ∷ ss) (size ∷ sizes) = (refl, are_numbered (p + 1) ns ss sizes)

-- no section stands before the first one
none_earlier : (p q end : ℕ) (ss : List SizedSection) → AreNumbered q ss → p < q
    → find (at_unloaded p) (unloaded_from end (filter is_unloaded ss)) ≡ None
unfolding unloaded_from
none_earlier p q end [] are less = refl
none_earlier p q end (s ∷ ss) are less =
    let other : (s.kept.position == p) ≡ false = ne_eqb s.kept.position p (λ same. absurd (omega (arith, same, are.0))) in
    let skip : (b : Bool) → find (at_unloaded p) (unloaded_from end (cond b (s ∷ filter is_unloaded ss) (filter is_unloaded ss))) ≡ None = λ b.
    elim b as (λ b. find (at_unloaded p) (unloaded_from end (cond b (s ∷ filter is_unloaded ss) (filter is_unloaded ss))) ≡ None) [
      | true ↦ rw other (none_earlier p (q + 1) (next_multiple_of end (alignment_of s) + s.size) ss are.1 (omega arith))
      | false ↦ none_earlier p (q + 1) end ss are.1 (omega arith)
    ] in
    skip (is_unloaded s)

module _ (s : SizedSection) (ss : List SizedSection) (end : ℕ) where
  -- the section is found at its own position, if it isn't loaded
  own_unloaded : (q : ℕ) → AreNumbered q (s ∷ ss) → (b : Bool)
      → cond b (Some (next_multiple_of end (alignment_of s))) None
      ≡ option_map offset_of (find (at_unloaded q) (unloaded_from end (cond b (s ∷ filter is_unloaded ss) (filter is_unloaded ss))))
  unfolding unloaded_from
  own_unloaded q are true = rw (eq-eqb s.kept.position q are.0) refl
  own_unloaded q are false = sym (ap (option_map offset_of) (none_earlier q (q + 1) end ss are.1 (omega arith)))

  -- a section that isn't loaded is passed over at another position
  other_unloaded : (p : ℕ) → s.kept.position ≢ p → (b : Bool)
      → find (at_unloaded p) (unloaded_from (cond b (next_multiple_of end (alignment_of s) + s.size) end) (filter is_unloaded ss))
      ≡ find (at_unloaded p) (unloaded_from end (cond b (s ∷ filter is_unloaded ss) (filter is_unloaded ss)))
  unfolding unloaded_from
  other_unloaded p apart true = rw (ne_eqb s.kept.position p apart) refl
  other_unloaded p apart false = refl

  next_unloaded : (b : Bool)
      → greatest (cond b (next_multiple_of end (alignment_of s) + s.size) end)
      (map (λ x. x.offset + x.size) (unloaded_from (cond b (next_multiple_of end (alignment_of s) + s.size) end) (filter is_unloaded ss)))
      ≡ greatest end (map (λ x. x.offset + x.size) (unloaded_from end (cond b (s ∷ filter is_unloaded ss) (filter is_unloaded ss))))
  unfolding unloaded_from
  next_unloaded true =
      let next : next_multiple_of end (alignment_of s) + s.size ≡ max end (next_multiple_of end (alignment_of s) + s.size) = omega arith in
      ap (λ (n : ℕ). greatest n (map (λ x. x.offset + x.size)
      (unloaded_from (next_multiple_of end (alignment_of s) + s.size) (filter is_unloaded ss)))) next
  next_unloaded false = refl

unloaded_kept : (q i end : ℕ) (ss : List SizedSection) → AreNumbered q ss
    → kept_for (slice_get (unloaded_offsets end ss) i) ≡ option_map offset_of (find (at_unloaded (q + i)) (unloaded_from end (filter is_unloaded ss)))
unfolding unloaded_offsets unloaded_from
unloaded_kept q i end [] are = refl
unloaded_kept q zero end (s ∷ ss) are =
    let at : q ≡ q + 0 = omega arith in
    own_unloaded s ss end q are (is_unloaded s) ∙ ap (λ (p : ℕ). option_map offset_of
    (find (at_unloaded p) (unloaded_from end (filter is_unloaded (s ∷ ss))))) at
unloaded_kept q (suc i) end (s ∷ ss) are =
    let at : q + 1 + i ≡ q + suc i = omega arith in
    let apart : s.kept.position ≢ q + suc i = λ same. absurd (omega (arith, same, are.0)) in
    unloaded_kept (q + 1) i (unloaded_next end s) ss are.1
    ∙ ap (λ (p : ℕ). option_map offset_of (find (at_unloaded p) (unloaded_from (unloaded_next end s) (filter is_unloaded ss)))) at
    ∙ ap (option_map offset_of) (other_unloaded s ss end (q + suc i) apart (is_unloaded s))

greatest_unloaded : (end : ℕ) (ss : List SizedSection)
    → greatest end (map (λ x. x.offset + x.size) (unloaded_from end (filter is_unloaded ss))) ≡ unloaded_end end ss
unfolding unloaded_end unloaded_from
greatest_unloaded end [] = refl
greatest_unloaded end (s ∷ ss) = sym (next_unloaded s ss end (is_unloaded s)) ∙ greatest_unloaded (unloaded_next end s) ss

-- ## The numbers behind the segments

pub start_same : (r : Resized) (moved : List ℕ) → start_behind r (segments_end r moved) (header_count r moved) ≡ unloaded_start r moved
unfolding unloaded_start table_offset
start_same r moved =
    sym (table_there (is_some (table_load r)) (segments_end r moved) r.image.header.e_phoff (next_table r (segments_end r moved))
    (header_count r moved * segment_header_size r.image.form))

pub table_same : (r : Resized) (moved : List ℕ) → table_behind r (segments_end r moved) ≡ table_offset r moved
unfolding table_offset
table_same r moved = refl

pub content_same : (r : Resized) (moved : List ℕ) → content_behind r (segments_end r moved) (header_count r moved) ≡ content_end r moved
unfolding content_end unloaded_slots
content_same r moved =
    ap (λ (n : ℕ). unloaded_end n (sized_sections r)) (start_same r moved) ∙ sym (greatest_unloaded (unloaded_start r moved) (sized_sections r))

pub sections_same : (r : Resized) (moved : List ℕ)
    → next_table r (content_behind r (segments_end r moved) (header_count r moved)) ≡ sections_offset r moved
unfolding sections_offset
sections_same r moved = ap (next_table r) (content_same r moved)

-- ## Every section

same_map : {X Y : Type 0} (f g : X → Y) (xs : List X) → ((i : ℕ) (x : X) → slice_get xs i ≡ Some x → f x ≡ g x) → map f xs ≡ map g xs
same_map f g [] each = refl
same_map {X} {Y} f g (x ∷ xs) each =
    ap (λ (y : Y). y ∷ map f xs) (each 0 x refl) ∙ ap (λ (l : List Y). g x ∷ l) (same_map f g xs (λ i y there. each (suc i) y there))

placed_same : (r : Resized) (moved : List ℕ) (s : SizedSection) (o : Option Slot) (l : Option UnloadedSlot)
    → place_by (content_end r moved) s (option_map at_of o) (option_map offset_of l) ≡ placed_as r moved s o l
placed_same r moved s (Some x) l = refl
placed_same r moved s None (Some x) = refl
placed_same r moved s None None = refl

abbrev all_slots : Resized → List ℕ → List Slot
all_slots r moved = flat_map (λ load. load.slots) (added_loads r moved)

slot_same : (r : Resized) (moved : List ℕ) (i : ℕ) (s : SizedSection) → slice_get (sized_sections r) i ≡ Some s
    → kept_for (slice_get (with_slots (none_yet r) (all_slots r moved)) s.kept.position) ≡ option_map at_of (slot_of r moved s)
slot_same r moved i s there =
    let p : ℕ = s.kept.position in
    let own : p ≡ i = own_position r i s there in
    let within : i < length (sized_sections r) = slice_get_within (sized_sections r) i s there in
    let long : p < length (none_yet r) = omega (arith, length-replicate {A = Option At} (length (sized_sections r)) None) in
    slots_kept p (all_slots r moved) (none_yet r) long
    ∙ ap (λ (o : Option At). option_or o (option_map at_of (slot_of r moved s))) (none_kept (length (sized_sections r)) p)

unloaded_same : (r : Resized) (moved : List ℕ) (i : ℕ) (s : SizedSection) → slice_get (sized_sections r) i ≡ Some s
    → kept_for (slice_get (offsets_behind r (segments_end r moved) (header_count r moved)) s.kept.position)
    ≡ option_map offset_of (unloaded_slot_of r moved s)
unfolding unloaded_slots
unloaded_same r moved i s there =
    let p : ℕ = s.kept.position in
    let at : 0 + p ≡ p = omega arith in
    ap (λ (n : ℕ). kept_for (slice_get (unloaded_offsets n (sized_sections r)) p)) (start_same r moved)
    ∙ unloaded_kept 0 p (unloaded_start r moved) (sized_sections r) (are_numbered 0 r.image.section_numbers r.image.sections r.sizes)
    ∙ ap (λ (q : ℕ). option_map offset_of (find (at_unloaded q) (unloaded_from (unloaded_start r moved) (filter is_unloaded (sized_sections r))))) at

pub places_same : (r : Resized) (moved : List ℕ)
    → places_behind r (with_slots (none_yet r) (all_slots r moved)) (segments_end r moved) (header_count r moved) ≡ places r moved
unfolding places
places_same r moved =
    let end : ℕ = content_behind r (segments_end r moved) (header_count r moved) in
    let slots : List (Option At) = with_slots (none_yet r) (all_slots r moved) in
    let offsets : List (Option ℕ) = offsets_behind r (segments_end r moved) (header_count r moved) in
    same_map _ (place_in r moved) (sized_sections r) (λ i s there.
    ap (λ (n : ℕ). place_by n s (kept_for (slice_get slots s.kept.position)) (kept_for (slice_get offsets s.kept.position)))
    (content_same r moved)
    ∙ ap (λ (o : Option At). place_by (content_end r moved) s o (kept_for (slice_get offsets s.kept.position)))
    (slot_same r moved i s there)
    ∙ ap (λ (o : Option ℕ). place_by (content_end r moved) s (option_map at_of (slot_of r moved s)) o) (unloaded_same r moved i s there)
    ∙ placed_same r moved s (slot_of r moved s) (unloaded_slot_of r moved s) ∙ sym (place_as r moved s))

pub all_same : (r : Resized) (moved : List ℕ) (slots : List (Option At)) (end headers : ℕ)
    → slots ≡ with_slots (none_yet r) (all_slots r moved) → end ≡ segments_end r moved → headers ≡ header_count r moved
    → places_behind r slots end headers ≡ places r moved
all_same r moved slots end headers is_slots is_end is_headers =
    ap (λ (l : List (Option At)). places_behind r l end headers) is_slots
    ∙ ap (λ (n : ℕ). places_behind r (with_slots (none_yet r) (all_slots r moved)) n headers) is_end
    ∙ ap (λ (n : ℕ). places_behind r (with_slots (none_yet r) (all_slots r moved)) (segments_end r moved) n) is_headers
    ∙ places_same r moved

-- everything stands where the definitions say
pub all_stands : (r : Resized) (moved : List ℕ) (slots : List (Option At)) (end headers : ℕ) (s : Standing) (b : Behind)
    → slots ≡ with_slots (none_yet r) (all_slots r moved) → end ≡ segments_end r moved → headers ≡ header_count r moved
    → IsBehind r slots end headers b → s.loads.items ≡ map (λ load. load.header) (added_loads r moved)
    → s.places ≡ b.places → s.e_phoff ≡ b.e_phoff → s.e_shoff ≡ b.e_shoff → IsStanding r moved s
all_stands r moved slots end headers s b is_slots is_end is_headers is loads places phoff shoff = record {
  loads = loads;
  places = ap (λ (v : Vec SectionPlace Global). map place_model v.items) places ∙ is.places
      ∙ all_same r moved slots end headers is_slots is_end is_headers;
  e_phoff = phoff ∙ is.e_phoff ∙ ap (table_behind r) is_end ∙ table_same r moved;
  e_shoff =
      shoff ∙ is.e_shoff ∙ ap (λ (n : ℕ). next_table r (content_behind r n headers)) is_end
      ∙ ap (λ (n : ℕ). next_table r (content_behind r (segments_end r moved) n)) is_headers ∙ sections_same r moved;
}

-- ## Faults

-- a number behind the segments that is past 64 bits is one of the plan's
pub behind_fault : (r : Resized) (moved : List ℕ) (slots : List (Option At)) (end headers : ℕ) (fault : LayoutFault)
    → slots ≡ with_slots (none_yet r) (all_slots r moved) → end ≡ segments_end r moved → headers ≡ header_count r moved
    → IsBehindFault r slots end headers fault → StandsTooFar r moved fault
behind_fault r moved slots end headers faults.Overlap is_slots is_end is_headers is = is
behind_fault r moved slots end headers faults.NumberTooLarge is_slots is_end is_headers (inl far) =
    let same : next_table r (content_behind r end headers) ≡ sections_offset r moved =
    ap (λ (n : ℕ). next_table r (content_behind r n headers)) is_end
    ∙ ap (λ (n : ℕ). next_table r (content_behind r (segments_end r moved) n)) is_headers
    ∙ sections_same r moved in
    past_sections r moved (subst (λ (n : ℕ). 2 ^ 64 ≤ n) same far)
behind_fault r moved slots end headers faults.NumberTooLarge is_slots is_end is_headers (inr (i, s, there, far)) =
    past_place r moved i s (ap (λ (l : List Place). slice_get l i) (sym (all_same r moved slots end headers is_slots is_end is_headers))
    ∙ there) far
behind_fault r moved slots end headers faults.Memory is_slots is_end is_headers is = tt
