-- A written file has no more program headers of a type that isn't loaded and never split than the file that was read.
use Rattle.std.proofs.Common.{◌≡◌, ◌≤◌, ℕ, ◌+◌, Bool, true, false, List, [], ◌∷◌, ◌++◌, map, length, refl, sym, ap, ◌∙◌, subst, inl, inr, Option, Some, None, arith}
use Rattle.std.specs.Prelude.{◌&&◌, not, ◌==◌, count_by, find, if◌then◌else◌}
use Rattle.std.specs.List.{flat_map, list_any, slice_get}
use Rattle.std.specs.Option.{option_map, option_to_list}
use Rattle.std.proofs.lemmas.Bool.{eqb-true, false≢true}
use Rattle.std.proofs.lemmas.List.{length-map}
use Rattle.std.proofs.lemmas.List.Sums.{count_by-le-length}
use Rattle.elf_format.specs.declared.constants.TheConstants.{PT_DYNAMIC, PT_GNU_STACK, PT_INTERP, PT_LOAD, PT_PHDR, SHT_DYNAMIC}
use Rattle.elf_format.specs.declared.records.SegmentHeader.{SegmentHeader}
use Rattle.elf_format.specs.File.{is_loaded}
use Rattle.elf_image.specs.Edited.{AreKept, AreSegments}
use Rattle.elf_image.specs.Segments.{loads_end}
use Rattle.elf_image.proofs.ForCallers.Unclaimed.{count_unclaimed}
use Rattle.elf_image.specs.Segments.{added_stack}
use Rattle.elf_layout_plan.specs.Anchors.{HeaderTable, Itself, Anchor, Notes, OneSection, anchor_by_range, anchor_of, anchor_or_itself, does_relro_stay, section_or_table, section_under}
use Rattle.elf_image.specs.Kept.{KeptSection, interpreter_number, is_numbered, kept_of_type, kept_sections}
use Rattle.elf_layout_plan.specs.Memory.{Resized}
use Rattle.elf_layout_plan.specs.Plan.{IsPlan, Plan, plan_for}
use Rattle.elf_layout_plan.specs.Standing.{places}
use Rattle.elf_layout_plan.specs.Written.{Target, behind_last_load, anchored_to, places_of_kept, resized_table, target_at, targets_of, targets_of_notes, written_from, written_segments}
use Rattle.elf_layout_plan.proofs.ForCallers.ApartLists.{each-at}
use Rattle.elf_layout_plan.proofs.ForCallers.ApartWritten.{added_headers, all_added_are_loaded}
use Rattle.elf_write_spec.proofs.LinkedLists.{count-append, count-cons, count-flat_map, count-none, one_if}
use Rattle.elf_layout_plan.proofs.ForCallers.PlacedWritten.{table_type}
use Rattle.elf_layout_plan.proofs.ForCallers.PlacedCount.{length-one}

-- how many program headers have the type
abbrev pub count_of : ℕ → List SegmentHeader → ℕ
count_of type ps = count_by (λ p. p.p_type == type) ps

-- ## What a program header goes by

abbrev is_notes : Anchor → Bool
is_notes Itself = false
is_notes HeaderTable = false
is_notes (OneSection s) = false
is_notes (Notes notes) = true

abbrev by_type : ℕ → Anchor → Anchor → Anchor → Anchor → Anchor
by_type n table dynamic interpreter other =
    if n == PT_LOAD then Itself
    else if n == PT_PHDR then table
    else if n == PT_DYNAMIC then dynamic
    else if n == PT_INTERP then interpreter
    else other

anchored_plainly : (o : Option KeptSection) → is_notes (anchor_or_itself o) ≡ false
anchored_plainly None = refl
anchored_plainly (Some s) = refl

table_plainly : (o : Option KeptSection) → is_notes (section_or_table o) ≡ false
table_plainly None = refl
table_plainly (Some s) = refl

module _ (r : Resized) where
  table_anchor : SegmentHeader → Anchor
  table_anchor p = section_or_table (section_under r.image p)

  dynamic_anchor : Anchor
  dynamic_anchor = anchor_or_itself (kept_of_type SHT_DYNAMIC r.image)

  interpreter_anchor : Anchor
  interpreter_anchor = anchor_or_itself (find (is_numbered (interpreter_number r.read)) (kept_sections r.image))

  other_anchor : SegmentHeader → Anchor
  other_anchor p = if does_relro_stay r.image.moves_dynamic p.p_type then Itself else anchor_by_range r.read r.image p

  anchor_is : (p : SegmentHeader) → anchor_of r.read r.image p ≡ by_type p.p_type (table_anchor p) dynamic_anchor interpreter_anchor (other_anchor p)
  unfolding anchor_of table_anchor dynamic_anchor interpreter_anchor other_anchor
  anchor_is p = refl

  anchor_at : (p : SegmentHeader) (type : ℕ) → p.p_type ≡ type
      → anchor_of r.read r.image p ≡ by_type type (table_anchor p) dynamic_anchor interpreter_anchor (other_anchor p)
  anchor_at p type h = anchor_is p ∙ ap (λ n. by_type n (table_anchor p) dynamic_anchor interpreter_anchor (other_anchor p)) h

  -- a program header of these types isn't over several notes
  plain-dynamic : (p : SegmentHeader) → p.p_type ≡ PT_DYNAMIC → is_notes (anchor_of r.read r.image p) ≡ false
  unfolding dynamic_anchor
  plain-dynamic p h = ap is_notes (anchor_at p PT_DYNAMIC h) ∙ anchored_plainly (kept_of_type SHT_DYNAMIC r.image)

  plain-interpreter : (p : SegmentHeader) → p.p_type ≡ PT_INTERP → is_notes (anchor_of r.read r.image p) ≡ false
  unfolding interpreter_anchor
  plain-interpreter p h =
      ap is_notes (anchor_at p PT_INTERP h) ∙ anchored_plainly (find (is_numbered (interpreter_number r.read)) (kept_sections r.image))

  plain-table : (p : SegmentHeader) → p.p_type ≡ PT_PHDR → is_notes (anchor_of r.read r.image p) ≡ false
  unfolding table_anchor
  plain-table p h = ap is_notes (anchor_at p PT_PHDR h) ∙ table_plainly (section_under r.image p)

-- ## What becomes of it

-- where it goes, by what it goes by, and what is written of it, by where it goes
abbrev targets_by : Resized → List ℕ → Anchor → List Target
targets_by r moved anchor = elim anchor [
  | Itself ↦ []
  | HeaderTable ↦ []
  | OneSection s ↦ map target_at (places_of_kept (places r moved) (s ∷ []))
  | Notes notes ↦ targets_of_notes moved (places r moved) notes
]

abbrev written_by : Resized → List ℕ → SegmentHeader → List Target → List SegmentHeader
written_by r moved p targets = elim targets [ [] ↦ resized_table r moved p ∷ [] | t ∷ ts ↦ map (anchored_to r.image.form p) (t ∷ ts) ]

targets_are : (r : Resized) (moved : List ℕ) (p : SegmentHeader) → targets_of r moved p ≡ targets_by r moved (anchor_of r.read r.image p)
unfolding targets_of
targets_are r moved p = refl

module _ (r : Resized) (moved : List ℕ) (type : ℕ) where
  one_target : (anchor : Anchor) → is_notes anchor ≡ false → length (targets_by r moved anchor) ≤ 1
  one_target Itself h = omega arith
  one_target HeaderTable h = omega arith
  one_target (OneSection s) h = length-one (slice_get (places r moved) s.position)
  one_target (Notes notes) h = absurd (false≢true (sym h))

  -- where its type is another, none of it has this type
  count-anchored : (p : SegmentHeader) (ts : List Target) → (p.p_type == type) ≡ false → count_of type (map (anchored_to r.image.form p) ts) ≡ 0
  count-anchored p [] other = refl
  count-anchored p (t ∷ ts) other =
      let first = count-cons (λ (q : SegmentHeader). q.p_type == type) (anchored_to r.image.form p t) (map (anchored_to r.image.form p) ts) in
      omega (arith, first, ap one_if other, count-anchored p ts other)

  count-other : (p : SegmentHeader) (targets : List Target) → (p.p_type == type) ≡ false → count_of type (written_by r moved p targets) ≡ 0
  count-other p [] other = omega (
    arith,
    count-cons (λ (q : SegmentHeader). q.p_type == type) (resized_table r moved p) [],
    ap one_if (ap (λ n. n == type) (table_type r moved p (anchor_of r.read r.image p)) ∙ other),
  )
  count-other p (t ∷ ts) other = count-anchored p (t ∷ ts) other

  -- a program header is made of at most one target, where there are no more
  length-one_made : (p : SegmentHeader) (targets : List Target) → length targets ≤ 1 → length (written_by r moved p targets) ≤ 1
  length-one_made p [] few = omega arith
  length-one_made p (t ∷ ts) few = omega (arith, few, length-map (t ∷ ts) (anchored_to r.image.form p))

  count-made : (p : SegmentHeader) → (p.p_type ≡ type → is_notes (anchor_of r.read r.image p) ≡ false) → (b : Bool) → (p.p_type == type) ≡ b
      → count_of type (written_by r moved p (targets_of r moved p)) ≤ one_if b
  count-made p plain false e = omega (arith, count-other p (targets_of r moved p) e)
  count-made p plain true e =
      let few : length (targets_of r moved p) ≤ 1 =
      subst (λ (ts : List Target). length ts ≤ 1) (sym (targets_are r moved p))
      (one_target (anchor_of r.read r.image p) (plain (eqb-true p.p_type type e))) in
      omega (
        arith,
        count_by-le-length (λ (q : SegmentHeader). q.p_type == type) (written_by r moved p (targets_of r moved p)),
        length-one_made p (targets_of r moved p) few,
      )

  count-from : ((p : SegmentHeader) → p.p_type ≡ type → is_notes (anchor_of r.read r.image p) ≡ false) → (p : SegmentHeader)
      → count_of type (written_from r moved p) ≤ one_if (p.p_type == type)
  count-from plain p = count-made p (plain p) (p.p_type == type) refl

-- ## All of them

behind_step : (type : ℕ) (more : List SegmentHeader) (p : SegmentHeader) (ps : List SegmentHeader)
    → count_of type (behind_last_load more ps) ≤ count_of type more + count_of type ps → (b : Bool)
    → count_of type (elim b as (λ _. List SegmentHeader) [ true ↦ p ∷ more ++ ps | _ ↦ p ∷ behind_last_load more ps ])
    ≤ count_of type more + count_of type (p ∷ ps)
behind_step type more p ps rest true =
    let test : SegmentHeader → Bool = λ q. q.p_type == type in
    omega (arith, count-cons test p (more ++ ps), count-append test more ps, count-cons test p ps)
behind_step type more p ps rest false =
    let test : SegmentHeader → Bool = λ q. q.p_type == type in
    omega (arith, rest, count-cons test p (behind_last_load more ps), count-cons test p ps)

count-behind : (type : ℕ) (more ps : List SegmentHeader) → count_of type (behind_last_load more ps) ≤ count_of type more + count_of type ps
unfolding behind_last_load
count-behind type more [] = omega arith
count-behind type more (p ∷ ps) = behind_step type more p ps (count-behind type more ps) (is_loaded p && not (list_any is_loaded ps))

-- no program header that is added has another type than that of loaded segments
count-added : (r : Resized) (moved : List ℕ) (type : ℕ) → (PT_LOAD == type) ≡ false → count_of type (added_headers r moved) ≡ 0
count-added r moved type other = count-none (λ (p : SegmentHeader). p.p_type == type) (added_headers r moved) (λ i p at.
    let loaded : is_loaded p ≡ true =
    each-at (λ (q : SegmentHeader). is_loaded q ≡ true) (added_headers r moved) (all_added_are_loaded r moved) i p at in
    ap (λ n. n == type) (eqb-true p.p_type PT_LOAD loaded) ∙ other)

count-written : (r : Resized) (moved : List ℕ) (type : ℕ) → (PT_LOAD == type) ≡ false
    → ((p : SegmentHeader) → p.p_type ≡ type → is_notes (anchor_of r.read r.image p) ≡ false)
    → count_of type (written_segments r moved) ≤ count_of type r.image.segments
unfolding written_segments
count-written r moved type other plain =
    let base : List SegmentHeader = flat_map (written_from r moved) r.image.segments in
    omega (
      arith,
      count-behind type (added_headers r moved) base,
      count-added r moved type other,
      count-flat_map (written_from r moved) (λ (p : SegmentHeader). p.p_type == type)
          (λ (p : SegmentHeader). p.p_type == type) r.image.segments
          (count-from r moved type plain),
    )

-- ## Those of an edited image

count-kept : (type : ℕ) (page_size : Option ℕ) (olds ps : List SegmentHeader) → AreKept page_size olds ps
    → count_of type ps ≤ count_of type olds
count-kept type page_size [] [] h = omega arith
count-kept type page_size [] (p ∷ ps) h = absurd h
count-kept type page_size (old ∷ olds) [] h = omega arith
count-kept type page_size (old ∷ olds) (p ∷ ps) (inl same) =
    let test : SegmentHeader → Bool = λ q. q.p_type == type in
    let first : one_if (test p) ≡ one_if (test old) = ap (λ (q : SegmentHeader). one_if (q.p_type == type)) same.0 in
    omega (arith, first, count-cons test p ps, count-cons test old olds, count-kept type page_size olds ps same.1)
count-kept type page_size (old ∷ olds) (p ∷ ps) (inr gone) =
    omega (arith, count-cons (λ (q : SegmentHeader). q.p_type == type) old olds, count-kept type page_size olds (p ∷ ps) gone.1)

count-stack : (type : ℕ) (o : Option ℕ) → (PT_GNU_STACK == type) ≡ false → count_of type (option_to_list (option_map added_stack o)) ≡ 0
count-stack type None other = refl
count-stack type (Some flags) other =
    omega (arith, count-cons (λ (q : SegmentHeader). q.p_type == type) (added_stack flags) [], ap one_if other)

count-whole : (type table : ℕ) (page_size : Option ℕ) (read now : List SegmentHeader) → AreSegments table page_size read now
    → (PT_LOAD == type) ≡ false → (PT_GNU_STACK == type) ≡ false
    → count_of type now ≤ count_of type read
count-whole type table page_size read now h loaded other =
    omega (
      arith,
      ap (count_of type) h.are_all,
      count-append (λ (q : SegmentHeader). q.p_type == type) h.kept (option_to_list (option_map added_stack h.added)),
      count-stack type h.added other,
      count-kept type page_size h.unclaimed h.kept h.are_kept,
      count_unclaimed table (loads_end now) (λ (q : SegmentHeader). q.p_type == type)
          (λ p load. ap (λ (n : ℕ). n == type) load ∙ loaded) read h.unclaimed h.are_unclaimed,
    )

-- ## A plan's

planned_segments : (r : Resized) (plan : Plan) → (planned : IsPlan r plan) → plan.segments ≡ written_segments r planned.moved
unfolding plan_for
planned_segments r plan planned = ap (λ (l : Plan). l.segments) planned.follows

pub count-planned : (r : Resized) (plan : Plan) → IsPlan r plan → (type : ℕ) → (PT_LOAD == type) ≡ false → (PT_GNU_STACK == type) ≡ false
    → ((p : SegmentHeader) → p.p_type ≡ type → is_notes (anchor_of r.read r.image p) ≡ false)
    → (table : ℕ) (read : List SegmentHeader) → AreSegments table r.image.page_size read r.image.segments
    → count_of type plan.segments ≤ count_of type read
count-planned r plan planned type loaded stack plain table read whole =
    omega (
      arith,
      ap (count_of type) (planned_segments r plan planned),
      count-written r planned.moved type loaded plain,
      count-whole type table r.image.page_size read r.image.segments whole loaded stack,
    )

-- no more of the types that may come once
pub record NoMoreSingles (read now : List SegmentHeader) : Type 0 where
  pub dynamic : count_of PT_DYNAMIC now ≤ count_of PT_DYNAMIC read
  pub interpreter : count_of PT_INTERP now ≤ count_of PT_INTERP read
  pub table : count_of PT_PHDR now ≤ count_of PT_PHDR read

pub no_more_singles : (r : Resized) (plan : Plan) → IsPlan r plan → (table : ℕ) (read : List SegmentHeader)
    → AreSegments table r.image.page_size read r.image.segments
    → NoMoreSingles read plan.segments
no_more_singles r plan planned table read whole = record {
  dynamic = count-planned r plan planned PT_DYNAMIC refl refl (plain-dynamic r) table read whole;
  interpreter = count-planned r plan planned PT_INTERP refl refl (plain-interpreter r) table read whole;
  table = count-planned r plan planned PT_PHDR refl refl (plain-table r) table read whole;
}
