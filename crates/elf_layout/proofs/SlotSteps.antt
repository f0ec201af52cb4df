-- Sections that move are placed one behind the other.
use Rattle.std.proofs.Common.{◌≡◌, ◌≢◌, ℕ, ◌+◌, ◌-◌, ◌^◌, ◌<◌, ◌≤◌, List, [], ◌∷◌, ◌++◌, Bool, true, false, Option, Some, None, refl, sym, ap, ◌∙◌, arith}
use Rattle.std.specs.Prelude.{◌==◌, option_map, slice_get, filter}
use Rattle.std.specs.List.{cons_option}
use Rattle.std.proofs.lemmas.Bool.{eq-eqb, ne_eqb}
use Rattle.std.proofs.lemmas.List.Elements.{filter-append, filter_map-append}
use Rattle.elf_layout_plan.specs.Added.{Slot, slots_from}
use Rattle.elf_layout_plan.specs.Memory.{Resized, SizedSection, sized_sections}
use Rattle.elf_layout_plan.specs.Rounds.{flags_for, sections_at}
use Rattle.elf_layout.specs.declared.sized.SectionNumbers.{SectionNumbers}
use Rattle.elf_layout.specs.declared.slots.At.{At}
use Rattle.elf_layout.specs.Numbers.{numbers_of}
use Rattle.elf_layout.specs.Slots.{aligned, at_of, behind_slots, end_behind, slot_behind, with_at, with_flags, with_slots}
use Rattle.elf_layout.proofs.SizedSections.{position_at}

-- ## What is found at a position

pub found_none : (o : Option SizedSection) → None ≡ option_map numbers_of o → o ≡ None
found_none None e = refl
found_none (Some s) e = let no : ⊥ = cc e in absurd no

pub found_some : (o : Option SizedSection) (n : SectionNumbers) → Some n ≡ option_map numbers_of o
    → (s : SizedSection) × (o ≡ Some s) × (n ≡ numbers_of s)
found_some None n e = let no : ⊥ = cc e in absurd no
found_some (Some s) n e = (s, refl, cc e)

-- ## The sections with flags among one position

abbrev tested : Bool → ℕ → Option SizedSection → List SizedSection
tested leave flags o = filter (λ s. flags_for leave s.kept.section == flags) (cons_option o [])

pub one_missing : (r : Resized) (flags position : ℕ) → slice_get (sized_sections r) position ≡ None
    → with_flags r flags (position ∷ []) ≡ []
one_missing r flags position none = ap (λ (o : Option SizedSection). tested r.image.moves_dynamic flags o) none

abbrev chosen : Bool → SizedSection → List SizedSection
chosen true s = s ∷ []
chosen false s = []

tested_as : (leave : Bool) (flags : ℕ) (s : SizedSection) (b : Bool) → (flags_for leave s.kept.section == flags) ≡ b → tested leave flags (Some s) ≡ chosen b s
tested_as leave flags s true e = rw e refl
tested_as leave flags s false e = rw e refl

pub one_other : (r : Resized) (flags position : ℕ) (s : SizedSection) → slice_get (sized_sections r) position ≡ Some s
    → flags_for r.image.moves_dynamic s.kept.section ≢ flags
    → with_flags r flags (position ∷ []) ≡ []
one_other r flags position s there other = ap (λ (o : Option SizedSection). tested r.image.moves_dynamic flags o) there
    ∙ tested_as r.image.moves_dynamic flags s false (ne_eqb _ _ other)

pub one_there : (r : Resized) (flags position : ℕ) (s : SizedSection) → slice_get (sized_sections r) position ≡ Some s
    → flags_for r.image.moves_dynamic s.kept.section ≡ flags
    → with_flags r flags (position ∷ []) ≡ s ∷ []
one_there r flags position s there same = ap (λ (o : Option SizedSection). tested r.image.moves_dynamic flags o) there
    ∙ tested_as r.image.moves_dynamic flags s true (eq-eqb (flags_for r.image.moves_dynamic s.kept.section) flags same)

-- a section stands at its position
pub own_position : (r : Resized) (position : ℕ) (s : SizedSection) → slice_get (sized_sections r) position ≡ Some s
    → s.kept.position ≡ position
own_position r position s there =
    let at : s.kept.position ≡ 0 + position = position_at 0 r.image.section_numbers r.image.sections r.sizes position s there in
    omega arith

-- ## Placing no section, or one

pub behind_none : (at : At) (xs : List SizedSection) → xs ≡ [] → at ≡ behind_slots at xs
unfolding behind_slots
behind_none at xs none = ap (λ (l : List SizedSection). behind_slots at l) (sym none)

pub slots_none : (kept : List (Option At)) (at : At) (xs : List SizedSection) → xs ≡ []
    → kept ≡ with_slots kept (slots_from at.offset at.address xs)
unfolding with_slots slots_from
slots_none kept at xs none = ap (λ (l : List SizedSection). with_slots kept (slots_from at.offset at.address l)) (sym none)

pub behind_one : (at : At) (xs : List SizedSection) (s : SizedSection) → xs ≡ s ∷ [] → end_behind at s ≡ behind_slots at xs
unfolding behind_slots
behind_one at xs s one = ap (λ (l : List SizedSection). behind_slots at l) (sym one)

pub slots_one : (kept : List (Option At)) (at : At) (xs : List SizedSection) (s : SizedSection) (position : ℕ) → xs ≡ s ∷ []
    → s.kept.position ≡ position
    → with_at kept position (slot_behind at s) ≡ with_slots kept (slots_from at.offset at.address xs)
unfolding with_slots slots_from
slots_one kept at xs s position one own =
    ap (λ (p : ℕ). with_at kept p (slot_behind at s)) (sym own)
    ∙ ap (λ (l : List SizedSection). with_slots kept (slots_from at.offset at.address l)) (sym one)

-- ## Placing several

pub with_flags_more : (r : Resized) (flags p : ℕ) (ps : List ℕ)
    → with_flags r flags (p ∷ ps) ≡ with_flags r flags (p ∷ []) ++ with_flags r flags ps
with_flags_more r flags p ps =
    ap (λ (l : List SizedSection). filter (λ s. flags_for r.image.moves_dynamic s.kept.section == flags) l)
    (filter_map-append (λ position. slice_get (sized_sections r) position) (p ∷ []) ps)
    ∙ filter-append (λ (s : SizedSection). flags_for r.image.moves_dynamic s.kept.section == flags) (sections_at r (p ∷ [])) (sections_at r ps)

pub behind-append : (at : At) (xs ys : List SizedSection) → behind_slots at (xs ++ ys) ≡ behind_slots (behind_slots at xs) ys
unfolding behind_slots
behind-append at [] ys = refl
behind-append at (x ∷ xs) ys = behind-append (end_behind at x) xs ys

pub slots-append : (at : At) (xs ys : List SizedSection)
    → slots_from at.offset at.address (xs ++ ys) ≡ slots_from at.offset at.address xs ++ slots_from (behind_slots at xs).offset
    (behind_slots at xs).address ys
unfolding slots_from behind_slots
slots-append at [] ys = refl
slots-append at (x ∷ xs) ys =
    let here : Slot = record {
      position = x.kept.position;
      offset = at.offset + (aligned at x - at.address);
      address = aligned at x;
      size = x.size;
    } in
    ap (λ (l : List Slot). here ∷ l) (slots-append (end_behind at x) xs ys)

pub with_slots-append : (kept : List (Option At)) (xs ys : List Slot) → with_slots kept (xs ++ ys) ≡ with_slots (with_slots kept xs) ys
unfolding with_slots
with_slots-append kept [] ys = refl
with_slots-append kept (x ∷ xs) ys = with_slots-append (with_at kept x.position (at_of x)) xs ys

pub behind_grows : (at : At) (xs : List SizedSection) → at.offset ≤ (behind_slots at xs).offset
unfolding behind_slots
behind_grows at [] = omega arith
behind_grows at (x ∷ xs) =
    let more : (end_behind at x).offset ≤ (behind_slots (end_behind at x) xs).offset = behind_grows (end_behind at x) xs in
    omega arith

-- The sections at some positions are placed: those that are left give what all of them give.
pub record ArePlaced (r : Resized) (flags : ℕ) (start : At) (all : List ℕ) (old : List (Option At)) (at : At) (kept : List (Option At))
    (rest : List ℕ) : Type 0 where
  pub end : behind_slots at (with_flags r flags rest) ≡ behind_slots start (with_flags r flags all)
  pub slots : with_slots kept (slots_from at.offset at.address (with_flags r flags rest))
      ≡ with_slots old (slots_from start.offset start.address (with_flags r flags all))
  pub distance : at.address + start.offset ≡ start.address + at.offset
  pub fits : at.offset < 2 ^ 64

pub placed_more : (r : Resized) (flags : ℕ) (start : At) (all : List ℕ) (old : List (Option At)) (at : At) (kept : List (Option At)) (p : ℕ)
    (ps : List ℕ)
    (end : At) (more : List (Option At)) → ArePlaced r flags start all old at kept (p ∷ ps)
    → end ≡ behind_slots at (with_flags r flags (p ∷ []))
    → more ≡ with_slots kept (slots_from at.offset at.address (with_flags r flags (p ∷ [])))
    → end.address + at.offset ≡ at.address + end.offset
    → end.offset < 2 ^ 64
    → ArePlaced r flags start all old end more ps
placed_more r flags start all old at kept p ps end more placed is_end is_more distance fits =
    let one : List SizedSection = with_flags r flags (p ∷ []) in
    let rest : List SizedSection = with_flags r flags ps in
    let split : with_flags r flags (p ∷ ps) ≡ one ++ rest = with_flags_more r flags p ps in
    record {
      end =
          ap (λ (x : At). behind_slots x rest) is_end ∙ sym (behind-append at one rest)
          ∙ ap (λ (l : List SizedSection). behind_slots at l) (sym split) ∙ placed.end;
      slots =
          ap (λ (x : At). with_slots more (slots_from x.offset x.address rest)) is_end
          ∙ ap (λ (k : List (Option At)). with_slots k (slots_from (behind_slots at one).offset (behind_slots at one).address rest)) is_more
          ∙ sym (with_slots-append kept (slots_from at.offset at.address one)
          (slots_from (behind_slots at one).offset (behind_slots at one).address rest))
          ∙ ap (λ (l : List Slot). with_slots kept l) (sym (slots-append at one rest))
          ∙ ap (λ (l : List SizedSection). with_slots kept (slots_from at.offset at.address l)) (sym split)
          ∙ placed.slots;
      distance = omega (arith, placed.distance);
      fits = fits;
    }

pub placed_far : (r : Resized) (flags : ℕ) (start : At) (all : List ℕ) (old : List (Option At)) (at : At) (kept : List (Option At)) (p : ℕ)
    (ps : List ℕ)
    (far : ℕ) → ArePlaced r flags start all old at kept (p ∷ ps)
    → far ≤ (behind_slots at (with_flags r flags (p ∷ []))).offset
    → far ≤ (behind_slots start (with_flags r flags all)).offset
placed_far r flags start all old at kept p ps far placed past =
    let one : List SizedSection = with_flags r flags (p ∷ []) in
    let rest : List SizedSection = with_flags r flags ps in
    let whole : behind_slots (behind_slots at one) rest ≡ behind_slots start (with_flags r flags all) =
    sym (behind-append at one rest) ∙ ap (λ (l : List SizedSection). behind_slots at l) (sym (with_flags_more r flags p ps)) ∙ placed.end in
    let grown : (behind_slots at one).offset ≤ (behind_slots (behind_slots at one) rest).offset = behind_grows (behind_slots at one) rest in
    let same : (behind_slots (behind_slots at one) rest).offset ≡ (behind_slots start (with_flags r flags all)).offset =
    ap (λ (x : At). x.offset) whole in
    omega arith

-- no section is left
pub placed_end : (r : Resized) (flags : ℕ) (start : At) (all : List ℕ) (old : List (Option At)) (at : At) (kept : List (Option At))
    → ArePlaced r flags start all old at kept [] → at ≡ behind_slots start (with_flags r flags all)
unfolding behind_slots
placed_end r flags start all old at kept placed = placed.end

pub placed_slots : (r : Resized) (flags : ℕ) (start : At) (all : List ℕ) (old : List (Option At)) (at : At) (kept : List (Option At))
    → ArePlaced r flags start all old at kept [] → kept ≡ with_slots old (slots_from start.offset start.address (with_flags r flags all))
unfolding with_slots slots_from
placed_slots r flags start all old at kept placed = placed.slots
