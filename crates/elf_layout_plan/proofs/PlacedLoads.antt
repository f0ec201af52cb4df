-- The loaded segments of an edited image are those that were read, but for their alignment, without those that were laid out anew.
use Rattle.std.proofs.Common.{◌≡◌, ◌⊎◌, ℕ, Bool, true, false, cond, List, [], ◌∷◌, ◌++◌, map, refl, sym, ap, ◌∙◌, subst, inl, inr, Option, Some, None, arith}
use Rattle.std.specs.Prelude.{◌||◌, ◌==◌, if◌then◌else◌}
use Rattle.std.specs.List.{list_any}
use Rattle.std.specs.Option.{option_map, option_to_list}
use Rattle.std.proofs.lemmas.Bool.{both_ways, cond-false, cond-true, eq-eqb, eqb-true, false≢true, ne_eqb, or_cases, or_left, or_right}
use Rattle.std.proofs.lemmas.List.{append-nil}
use Rattle.std.proofs.lemmas.List.Elements.{filter-append}
use Rattle.std.proofs.lemmas.List.Folds.{list_any-append}
use Rattle.elf_format.specs.declared.constants.TheConstants.{PT_GNU_STACK, PT_LOAD}
use Rattle.elf_format.specs.declared.records.SegmentHeader.{SegmentHeader}
use Rattle.elf_format.specs.File.{is_loaded, loads_of}
use Rattle.elf_tables.specs.Edited.{AreKept, AreSegments, AreUnclaimed, CanGo, IsReclaimed, kept_segment}
use Rattle.elf_image_headers.specs.Segments.{added_stack, loads_end}
use Rattle.elf_tables.proofs.ForCallers.Unclaimed.{any_unclaimed, one_went}
use Rattle.elf_layout_plan.proofs.PlacedLists.{Has, Pairs, has_cases, has_none, has_same, has_there, pairs-first, pairs-more, pairs-none, pairs-rest}

-- a program header without its alignment
abbrev pub plain : SegmentHeader → SegmentHeader
plain p = record p { p_align = 0 }

-- one that is kept, before others
step_kept : (old : SegmentHeader) (size : Option ℕ) (flags : ℕ) (ps olds : List SegmentHeader) → map plain ps ≡ map plain olds
    → (b : Bool) → (old.p_type == PT_LOAD) ≡ b → (c : Bool) → (old.p_type == PT_GNU_STACK) ≡ c
    → map plain (cond b (kept_segment size flags old ∷ ps) ps) ≡ map plain (cond b (old ∷ olds) olds)
step_kept old size flags ps olds same true is true stack =
    let load : old.p_type ≡ PT_LOAD = eqb-true old.p_type PT_LOAD is in
    let other : old.p_type ≡ PT_GNU_STACK = eqb-true old.p_type PT_GNU_STACK stack in
    absurd (different (sym load ∙ other))
  where
    different : PT_LOAD ≡ PT_GNU_STACK → ⊥
    different e = omega (arith, e)
step_kept old size flags ps olds same true is false stack =
    ap (λ (c : Bool). record (plain old) { p_flags = if c then flags else old.p_flags } ∷ map plain ps) stack
    ∙ ap (λ (qs : List SegmentHeader). plain old ∷ qs) same
step_kept old size flags ps olds same false is c stack = same

-- one that has gone, before others
step_gone : (old : SegmentHeader) (olds : List SegmentHeader) → CanGo old → loads_of (old ∷ olds) ≡ loads_of olds
step_gone old olds go = cond-false (is_loaded old) (old ∷ loads_of olds) (loads_of olds) (ne_eqb old.p_type PT_LOAD go.0)

kept_plain : (size : Option ℕ) (olds ps : List SegmentHeader) → AreKept size olds ps → map plain (loads_of ps) ≡ map plain (loads_of olds)
kept_plain size [] [] h = refl
kept_plain size [] (p ∷ ps) h = absurd h
kept_plain size (old ∷ olds) [] h = kept_plain size olds [] h.1 ∙ ap (map plain) (sym (step_gone old olds h.0))
kept_plain size (old ∷ olds) (p ∷ ps) h = elim h [
  | inl same ↦
      ap (λ (q : SegmentHeader). map plain (loads_of (q ∷ ps))) same.0
      ∙ step_kept old size p.p_flags (loads_of ps) (loads_of olds) (kept_plain size olds ps same.1) (old.p_type == PT_LOAD) refl
      (old.p_type == PT_GNU_STACK) refl
  | inr gone ↦ kept_plain size olds (p ∷ ps) gone.1 ∙ ap (map plain) (sym (step_gone old olds gone.0))
]

-- the stack's program header isn't loaded
stack_plain : (o : Option ℕ) → loads_of (option_to_list (option_map added_stack o)) ≡ []
stack_plain None = refl
stack_plain (Some flags) = refl

pub same_loads : (table : ℕ) (size : Option ℕ) (read now : List SegmentHeader) (h : AreSegments table size read now)
    → map plain (loads_of now) ≡ map plain (loads_of h.unclaimed)
same_loads table size read now h =
    let stack = option_to_list (option_map added_stack h.added) in
    ap (λ (ps : List SegmentHeader). map plain (loads_of ps)) h.are_all
    ∙ ap (map plain) (filter-append is_loaded h.kept stack ∙ ap (λ (ps : List SegmentHeader). loads_of h.kept ++ ps) (stack_plain h.added)
    ∙ append-nil (loads_of h.kept))
    ∙ kept_plain size h.unclaimed h.kept h.are_kept

-- ## What is left of those that were read

module _ (table end : ℕ) where
  -- one that went, before others
  went_load : (old : SegmentHeader) (olds ps : List SegmentHeader) → IsReclaimed table end old
      → AreUnclaimed table end (loads_of olds) (loads_of ps) → AreUnclaimed table end (loads_of (old ∷ olds)) (loads_of ps)
  went_load old olds ps went h =
      let first : loads_of (old ∷ olds) ≡ old ∷ loads_of olds = cond-true (is_loaded old) (old ∷ loads_of olds) (loads_of olds)
      (eq-eqb old.p_type PT_LOAD went.loaded) in
      subst (λ (l : List SegmentHeader). AreUnclaimed table end l (loads_of ps)) (sym first)
      (one_went table end old (loads_of olds) (loads_of ps) went h)

  -- one that is left, before others
  left_load : (b : Bool) (old : SegmentHeader) (olds ps : List SegmentHeader) → AreUnclaimed table end olds ps
      → AreUnclaimed table end (cond b (old ∷ olds) olds) (cond b (old ∷ ps) ps)
  left_load true old olds ps h = inl (refl, h)
  left_load false old olds ps h = h

  -- what holds of program headers holds of the loaded ones
  pub loads_unclaimed : (olds ps : List SegmentHeader) → AreUnclaimed table end olds ps
      → AreUnclaimed table end (loads_of olds) (loads_of ps)
  loads_unclaimed [] [] h = tt
  loads_unclaimed [] (p ∷ ps) h = absurd h
  loads_unclaimed (old ∷ olds) [] h = went_load old olds [] h.0 (loads_unclaimed olds [] h.1)
  loads_unclaimed (old ∷ olds) (p ∷ ps) h = elim h [
    | inl same ↦
        subst (λ (q : SegmentHeader). AreUnclaimed table end (loads_of (old ∷ olds)) (loads_of (q ∷ ps))) (sym same.0)
        (left_load (is_loaded old) old (loads_of olds) (loads_of ps) (loads_unclaimed olds ps same.1))
    | inr gone ↦ went_load old olds (p ∷ ps) gone.0 (loads_unclaimed olds (p ∷ ps) gone.1)
  ]

  -- one that is left was read
  pub was_there : (olds ps : List SegmentHeader) → AreUnclaimed table end olds ps → (q : SegmentHeader) → Has q ps → Has q olds
  was_there [] [] h q here = here
  was_there [] (p ∷ ps) h q here = absurd h
  was_there (old ∷ olds) [] h q here = absurd (has_none q here)
  was_there (old ∷ olds) (p ∷ ps) h q here = elim h [
    | inl same ↦ elim (has_cases q p ps here) [
      | inl is ↦ has_same q old olds (sym same.0 ∙ is)
      | inr later ↦ has_there q old olds (was_there olds ps same.1 q later)
    ]
    | inr gone ↦ has_there q old olds (was_there olds (p ∷ ps) gone.1 q here)
  ]

  -- one that was read is left, or it went
  pub left_or_went : (olds ps : List SegmentHeader) → AreUnclaimed table end olds ps → (q : SegmentHeader) → Has q olds
      → Has q ps ⊎ IsReclaimed table end q
  left_or_went [] ps h q here = absurd (has_none q here)
  left_or_went (old ∷ olds) [] h q here = elim (has_cases q old olds here) [
    | inl is ↦ inr (subst (λ (p : SegmentHeader). IsReclaimed table end p) is h.0)
    | inr later ↦ left_or_went olds [] h.1 q later
  ]
  left_or_went (old ∷ olds) (p ∷ ps) h q here = elim h [
    | inl same ↦ elim (has_cases q old olds here) [
      | inl is ↦ inl (has_same q p ps (same.0 ∙ is))
      | inr later ↦ elim (left_or_went olds ps same.1 q later) [ inl left ↦ inl (has_there q p ps left) | inr went ↦ inr went ]
    ]
    | inr gone ↦ elim (has_cases q old olds here) [
      | inl is ↦ inr (subst (λ (x : SegmentHeader). IsReclaimed table end x) is gone.0)
      | inr later ↦ left_or_went olds (p ∷ ps) gone.1 q later
    ]
  ]

  -- what is left keeps its order
  pub pairs_left : (R : SegmentHeader → SegmentHeader → Type 0) (olds ps : List SegmentHeader) → AreUnclaimed table end olds ps → Pairs R olds
      → Pairs R ps
  pairs_left R [] [] h pairs = pairs
  pairs_left R [] (p ∷ ps) h pairs = absurd h
  pairs_left R (old ∷ olds) [] h pairs = pairs-none R
  pairs_left R (old ∷ olds) (p ∷ ps) h pairs = elim h [
    | inl same ↦
        pairs-more R p ps
        (λ q here. subst (λ (x : SegmentHeader). R x q) (sym same.0)
        (pairs-first R old olds pairs q (was_there olds ps same.1 q here)))
        (pairs_left R olds ps same.1 (pairs-rest R old olds pairs))
    | inr gone ↦ pairs_left R olds (p ∷ ps) gone.1 (pairs-rest R old olds pairs)
  ]

-- ## Program headers for the table

-- there is no program header of a type that wasn't read
kept_type : (type : ℕ) (size : Option ℕ) (olds ps : List SegmentHeader) → AreKept size olds ps → list_any (λ p. p.p_type == type) ps ≡ true
    → list_any (λ p. p.p_type == type) olds ≡ true
kept_type type size [] [] h any = any
kept_type type size [] (p ∷ ps) h any = absurd h
kept_type type size (old ∷ olds) [] h any = absurd (false≢true any)
kept_type type size (old ∷ olds) (p ∷ ps) h any = elim h [
  | inl same ↦ elim (or_cases (p.p_type == type) (list_any (λ q. q.p_type == type) ps) any) [
    | inl here ↦ or_left (old.p_type == type) (list_any (λ q. q.p_type == type) olds)
        (ap (λ (q : SegmentHeader). q.p_type == type) (sym same.0) ∙ here)
    | inr later ↦ or_right (old.p_type == type) (list_any (λ q. q.p_type == type) olds) (kept_type type size olds ps same.1 later)
  ]
  | inr gone ↦ or_right (old.p_type == type) (list_any (λ q. q.p_type == type) olds) (kept_type type size olds (p ∷ ps) gone.1 any)
]

no_stack_type : (type : ℕ) (o : Option ℕ) → (PT_GNU_STACK == type) ≡ false
    → list_any (λ p. p.p_type == type) (option_to_list (option_map added_stack o)) ≡ false
no_stack_type type None other = refl
no_stack_type type (Some flags) other = ap (λ b. b || false) other

pub same_type : (type table : ℕ) (size : Option ℕ) (read now : List SegmentHeader) → (PT_GNU_STACK == type) ≡ false
    → (PT_LOAD == type) ≡ false → AreSegments table size read now
    → list_any (λ p. p.p_type == type) now ≡ true → list_any (λ p. p.p_type == type) read ≡ true
same_type type table size read now other unloaded h any =
    let stack = option_to_list (option_map added_stack h.added) in
    let is_type : SegmentHeader → Bool = λ p. p.p_type == type in
    let split : (list_any is_type h.kept || list_any is_type stack) ≡ true =
    sym (list_any-append is_type h.kept stack) ∙ ap (list_any is_type) (sym h.are_all) ∙ any in
    let same : list_any is_type h.unclaimed ≡ list_any is_type read = any_unclaimed table (loads_end now) is_type
    (λ p load. ap (λ (n : ℕ). n == type) load ∙ unloaded) read h.unclaimed h.are_unclaimed in
    elim (or_cases (list_any is_type h.kept) (list_any is_type stack) split) [
      | inl kept ↦ sym same ∙ kept_type type size h.unclaimed h.kept h.are_kept kept
      | inr added ↦ absurd (both_ways (list_any is_type stack) (no_stack_type type h.added other) added)
    ]
