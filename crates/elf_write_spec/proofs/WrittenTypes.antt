-- The first program header of a type: the one that was read, the one of the image, and what is written of it.
use Rattle.std.proofs.Common.{◌≡◌, ◌≤◌, ℕ, Bool, true, false, cond, List, [], ◌∷◌, ◌++◌, map, refl, sym, ap, ◌∙◌, subst, inl, inr, arith, Option, Some, None}
use Rattle.std.specs.Prelude.{◌==◌, ◌&&◌, not, count_by, find}
use Rattle.std.specs.List.{flat_map, list_any, slice_get}
use Rattle.std.specs.Option.{option_map, option_or, option_to_list}
use Rattle.std.proofs.lemmas.Bool.{cond-false, eqb-true}
use Rattle.std.proofs.lemmas.List.Folds.{find-append}
use Rattle.elf_format.specs.declared.constants.TheConstants.{PT_GNU_STACK, PT_LOAD}
use Rattle.elf_format.specs.declared.records.SegmentHeader.{SegmentHeader}
use Rattle.elf_format.specs.File.{is_loaded, segment_of_type}
use Rattle.elf_format.specs.Options.{is_one_of}
use Rattle.elf_format.specs.Places.{Place}
use Rattle.elf_format.specs.Rules.{single_segment_types}
use Rattle.elf_image.specs.Edited.{AreKept, AreSegments, CanGo, kept_segment}
use Rattle.elf_image.specs.Segments.{loads_end}
use Rattle.elf_image.proofs.ForCallers.Unclaimed.{count_unclaimed, find_unclaimed}
use Rattle.elf_image.specs.Segments.{added_stack}
use Rattle.elf_layout_plan.specs.Anchors.{HeaderTable, Itself, Anchor, Notes, OneSection, anchor_of}
use Rattle.elf_image.specs.Kept.{KeptSection, image_at_read}
use Rattle.elf_layout_plan.specs.Memory.{Resized}
use Rattle.elf_layout_plan.specs.Plan.{Plan, plan_for, resized}
use Rattle.elf_layout_plan.specs.Standing.{places}
use Rattle.elf_layout_plan.specs.Written.{Target, behind_last_load, anchored_to, places_of_kept, resized_table, target_at, targets_of, targets_of_notes, written_from, written_segments}
use Rattle.elf_layout_plan.proofs.ForCallers.ApartLists.{Each, find-at}
use Rattle.elf_layout_plan.proofs.ForCallers.ApartWritten.{added_headers, all_added_are_loaded, section_targets}
use Rattle.elf_write_spec.specs.Output.{IsPlannedOutput, Output}
use Rattle.elf_write_spec.proofs.SingleTypes.{one_segment}
use Rattle.elf_write_spec.proofs.LinkedLists.{count-cons, one_if, one_there}
use Rattle.elf_write_spec.proofs.WholeFacts.{ReadFacts}
use Rattle.elf_layout_plan.proofs.ForCallers.PlacedWritten.{table_type}

-- a program header is of a type
abbrev pub has_type : ℕ → SegmentHeader → Bool
has_type type p = p.p_type == type

-- ## What becomes of one program header

module _ (r : Resized) (moved : List ℕ) where
  -- the first of what is written of it: where it first goes, or it stays
  unfoldable pub becomes_by : SegmentHeader → List Target → SegmentHeader
  becomes_by p targets = elim targets [ [] ↦ resized_table r moved p | t ∷ ts ↦ anchored_to r.image.form p t ]

  abbrev pub becomes : SegmentHeader → SegmentHeader
  becomes p = becomes_by p (targets_of r moved p)

  -- a program header that goes by one section goes where that goes
  pub becomes-section : (p : SegmentHeader) (s : KeptSection) (x : Place) → anchor_of r.read r.image p ≡ OneSection s
      → slice_get (places r moved) s.position ≡ Some x
      → becomes p ≡ anchored_to r.image.form p (target_at x)
  unfolding becomes_by
  becomes-section p s x anchor there = ap (becomes_by p) (section_targets r moved p s x anchor there)

  module _ (type : ℕ) where
    anchored-none : (p : SegmentHeader) (ts : List Target) (rest : List SegmentHeader) → has_type type p ≡ false
        → find (has_type type) (map (anchored_to r.image.form p) ts ++ rest) ≡ find (has_type type) rest
    anchored-none p [] rest h = refl
    anchored-none p (t ∷ ts) rest h =
        cond-false (has_type type p) (Some (anchored_to r.image.form p t)) (find (has_type type) (map (anchored_to r.image.form p) ts ++ rest)) h ∙ anchored-none p ts rest h

    find-one : (p : SegmentHeader) (targets : List Target) (rest : List SegmentHeader) (b : Bool) → has_type type p ≡ b
        → find (has_type type) ((elim targets as
        (λ _. List SegmentHeader) [ [] ↦ resized_table r moved p ∷ [] | t ∷ ts ↦ map (anchored_to r.image.form p) (t ∷ ts) ]) ++ rest)
        ≡ cond b (Some (becomes_by p targets)) (find (has_type type) rest)
    unfolding becomes_by
    find-one p [] rest b h =
        let q : SegmentHeader = resized_table r moved p in
        let same : has_type type q ≡ b = ap (λ n. n == type) (table_type r moved p (anchor_of r.read r.image p)) ∙ h in
        ap (λ c. cond c (Some q) (find (has_type type) rest)) same
    find-one p (t ∷ ts) rest true h = ap (λ c. cond c (Some (anchored_to r.image.form p t)) (find (has_type type) (map (anchored_to r.image.form p) ts ++ rest))) h
    find-one p (t ∷ ts) rest false h = anchored-none p (t ∷ ts) rest h

    find-all : (ps : List SegmentHeader) → find (has_type type) (flat_map (written_from r moved) ps)
        ≡ option_map becomes (find (has_type type) ps)
    find-all [] = refl
    find-all (p ∷ ps) =
        find-one p (targets_of r moved p) (flat_map (written_from r moved) ps) (has_type type p) refl
        ∙ ap (cond (has_type type p) (Some (becomes p))) (find-all ps) ∙ by_test (has_type type p)
      where
        by_test : (b : Bool) → cond b (Some (becomes p)) (option_map becomes (find (has_type type) ps))
            ≡ option_map becomes (cond b (Some p) (find (has_type type) ps))
        by_test true = refl
        by_test false = refl

-- ## Those that are added

module _ (type : ℕ) (other : (PT_LOAD == type) ≡ false) where
  added-none : (more rest : List SegmentHeader) → Each (λ p. is_loaded p ≡ true) more
      → find (has_type type) (more ++ rest) ≡ find (has_type type) rest
  added-none [] rest all = refl
  added-none (p ∷ more) rest all =
      let loaded : p.p_type ≡ PT_LOAD = eqb-true p.p_type PT_LOAD all.0 in
      cond-false (has_type type p) (Some p) (find (has_type type) (more ++ rest)) (ap (λ n. n == type) loaded ∙ other)
      ∙ added-none more rest all.1

  find-behind : (more ps : List SegmentHeader) → Each (λ p. is_loaded p ≡ true) more
      → find (has_type type) (behind_last_load more ps) ≡ find (has_type type) ps
  unfolding behind_last_load
  find-behind more [] all = refl
  find-behind more (p ∷ ps) all = by_test (is_loaded p && not (list_any is_loaded ps)) (find-behind more ps all)
    where
      by_test : (b : Bool) → find (has_type type) (behind_last_load more ps) ≡ find (has_type type) ps
          → find (has_type type) (elim b as (λ _. List SegmentHeader) [ true ↦ p ∷ more ++ ps | _ ↦ p ∷ behind_last_load more ps ])
          ≡ find (has_type type) (p ∷ ps)
      by_test true h = ap (cond (has_type type p) (Some p)) (added-none more ps all)
      by_test false h = ap (cond (has_type type p) (Some p)) h

  -- of a type that isn't loaded the first one is what becomes of the image's first one
  pub segment_written : (r : Resized) (moved : List ℕ)
      → segment_of_type type (written_segments r moved) ≡ option_map (becomes r moved) (segment_of_type type r.image.segments)
  unfolding written_segments
  segment_written r moved =
      find-behind (added_headers r moved) (flat_map (written_from r moved) r.image.segments) (all_added_are_loaded r moved)
      ∙ find-all r moved type r.image.segments

-- ## How many there are of a type

module _ (r : Resized) (moved : List ℕ) where
  targets_by : Anchor → List Target
  targets_by anchor = elim anchor [
    | Itself ↦ []
    | HeaderTable ↦ []
    | OneSection s ↦ map target_at (places_of_kept (places r moved) (s ∷ []))
    | Notes notes ↦ targets_of_notes moved (places r moved) notes
  ]

  targets-are : (p : SegmentHeader) → targets_of r moved p ≡ targets_by (anchor_of r.read r.image p)
  unfolding targets_of targets_by
  targets-are p = refl

-- ## Those that were read

-- the first one of a type, among those that were read and among those that are there
pub data Found (page_size : Option ℕ) (olds news : List SegmentHeader) (type : ℕ) : Type 0 where
  Neither : segment_of_type type olds ≡ None → segment_of_type type news ≡ None → Found page_size olds news type
  Both : (old p : SegmentHeader) → segment_of_type type olds ≡ Some old → segment_of_type type news ≡ Some p
      → p ≡ kept_segment page_size p.p_flags old
      → Found page_size olds news type
  Gone : (old : SegmentHeader) → segment_of_type type olds ≡ Some old → CanGo old → segment_of_type type news ≡ None
      → Found page_size olds news type

found-next : (page_size : Option ℕ) (old p : SegmentHeader) (olds news : List SegmentHeader) (type : ℕ)
    → p ≡ kept_segment page_size p.p_flags old
    → Found page_size olds news type → (b : Bool) → has_type type old ≡ b → Found page_size (old ∷ olds) (p ∷ news) type
found-next page_size old p olds news type same rest true h =
    let also : has_type type p ≡ true = ap (has_type type) same ∙ h in
    Both old p (ap (λ c. cond c (Some old) (segment_of_type type olds)) h) (ap (λ c. cond c (Some p) (segment_of_type type news)) also) same
found-next page_size old p olds news type same (Neither no_old none) false h =
    let also : has_type type p ≡ false = ap (has_type type) same ∙ h in
    Neither (ap (λ c. cond c (Some old) (segment_of_type type olds)) h ∙ no_old)
    (ap (λ c. cond c (Some p) (segment_of_type type news)) also ∙ none)
found-next page_size old p olds news type same (Both first now at_first at_now like) false h =
    let also : has_type type p ≡ false = ap (has_type type) same ∙ h in
    Both first now (ap (λ c. cond c (Some old) (segment_of_type type olds)) h ∙ at_first)
    (ap (λ c. cond c (Some p) (segment_of_type type news)) also ∙ at_now) like
found-next page_size old p olds news type same (Gone first at_first can none) false h =
    let also : has_type type p ≡ false = ap (has_type type) same ∙ h in
    Gone first (ap (λ c. cond c (Some old) (segment_of_type type olds)) h ∙ at_first) can
    (ap (λ c. cond c (Some p) (segment_of_type type news)) also ∙ none)

-- a program header of a type that comes once went
found-gone : (page_size : Option ℕ) (old : SegmentHeader) (olds news : List SegmentHeader) (type : ℕ) → CanGo old
    → count_by (has_type type) (old ∷ olds) ≤ 1
    → Found page_size olds news type → (b : Bool) → has_type type old ≡ b → Found page_size (old ∷ olds) news type
found-gone page_size old olds news type can few (Neither no_old none) true h =
    Gone old (ap (λ c. cond c (Some old) (segment_of_type type olds)) h) can none
found-gone page_size old olds news type can few (Both first now at_first at_now like) true h =
    let (i, at, passes) = find-at (has_type type) olds first at_first in
    absurd (omega (arith, few, count-cons (has_type type) old olds, ap one_if h, one_there (has_type type) olds i first at passes))
found-gone page_size old olds news type can few (Gone first at_first first_can none) true h =
    Gone old (ap (λ c. cond c (Some old) (segment_of_type type olds)) h) can none
found-gone page_size old olds news type can few (Neither no_old none) false h =
    Neither (ap (λ c. cond c (Some old) (segment_of_type type olds)) h ∙ no_old) none
found-gone page_size old olds news type can few (Both first now at_first at_now like) false h =
    Both first now (ap (λ c. cond c (Some old) (segment_of_type type olds)) h ∙ at_first) at_now like
found-gone page_size old olds news type can few (Gone first at_first first_can none) false h =
    Gone first (ap (λ c. cond c (Some old) (segment_of_type type olds)) h ∙ at_first) first_can none

find-kept : (page_size : Option ℕ) (olds news : List SegmentHeader) (type : ℕ) → AreKept page_size olds news
    → count_by (has_type type) olds ≤ 1 → Found page_size olds news type
find-kept page_size [] [] type h few = Neither refl refl
find-kept page_size [] (p ∷ ps) type h few = absurd h
find-kept page_size (old ∷ olds) [] type (can, rest) few =
    found-gone page_size old olds [] type can few
    (find-kept page_size olds [] type rest (omega (arith, few, count-cons (has_type type) old olds))) (has_type type old) refl
find-kept page_size (old ∷ olds) (p ∷ ps) type (inl (same, rest)) few =
    found-next page_size old p olds ps type same
    (find-kept page_size olds ps type rest (omega (arith, few, count-cons (has_type type) old olds))) (has_type type old) refl
find-kept page_size (old ∷ olds) (p ∷ ps) type (inr (can, rest)) few =
    found-gone page_size old olds (p ∷ ps) type can few
    (find-kept page_size olds (p ∷ ps) type rest (omega (arith, few, count-cons (has_type type) old olds))) (has_type type old) refl

module _ (table : ℕ) (page_size : Option ℕ) (type : ℕ) (no_load : (PT_LOAD == type) ≡ false) (other : (PT_GNU_STACK == type) ≡ false) where
  -- what is added for the stack is of another type
  stack-none : (added : Option ℕ) → segment_of_type type (option_to_list (option_map added_stack added)) ≡ None
  stack-none None = refl
  stack-none (Some flags) = ap (λ c. cond c (Some (added_stack flags)) None) other

  or-none : (o : Option SegmentHeader) → option_or o None ≡ o
  or-none None = refl
  or-none (Some p) = refl

  pub find-segment : (olds news : List SegmentHeader) → AreSegments table page_size olds news → count_by (has_type type) olds ≤ 1
      → Found page_size olds news type
  find-segment olds news all few =
      let is_other : (p : SegmentHeader) → p.p_type ≡ PT_LOAD → has_type type p ≡ false = λ p load. ap (λ (n : ℕ). n == type) load ∙ no_load in
      let were : segment_of_type type olds ≡ segment_of_type type all.unclaimed =
      sym (find_unclaimed table (loads_end news) (has_type type) is_other olds all.unclaimed all.are_unclaimed) in
      let fewer : count_by (has_type type) all.unclaimed ≤ 1 =
      subst (λ (n : ℕ). n ≤ 1) (sym (count_unclaimed table (loads_end news) (has_type type) is_other olds all.unclaimed all.are_unclaimed)) few in
      let stack : List SegmentHeader = option_to_list (option_map added_stack all.added) in
      let same : segment_of_type type news ≡ segment_of_type type all.kept =
      ap (segment_of_type type) all.are_all ∙ find-append (has_type type) all.kept stack
      ∙ ap (option_or (segment_of_type type all.kept)) (stack-none all.added) ∙ or-none (segment_of_type type all.kept) in
      by_found were same (find-kept page_size all.unclaimed all.kept type all.are_kept fewer)
    where
      by_found : segment_of_type type olds ≡ segment_of_type type all.unclaimed → segment_of_type type news ≡ segment_of_type type all.kept
          → Found page_size all.unclaimed all.kept type → Found page_size olds news type
      by_found were same (Neither no_old none) = Neither (were ∙ no_old) (same ∙ none)
      by_found were same (Both old p at_old at_p like) = Both old p (were ∙ at_old) (same ∙ at_p) like
      by_found were same (Gone old at_old can none) = Gone old (were ∙ at_old) can (same ∙ none)

-- ## The program headers of a plan

-- the one of a type: none was read and none is written, what is written became of the one that was read, or that went
pub data SegmentAt (w : Output) (is : IsPlannedOutput w) (f : ReadFacts w) (type : ℕ) : Type 0 where
  NoSegment : segment_of_type type f.parts.segments ≡ None → segment_of_type type w.image.segments ≡ None
      → segment_of_type type w.plan.segments ≡ None
      → SegmentAt w is f type
  ASegment : (old p : SegmentHeader) → segment_of_type type f.parts.segments ≡ Some old → segment_of_type type w.image.segments ≡ Some p
      → p ≡ kept_segment w.image.page_size p.p_flags old
      → segment_of_type type w.plan.segments ≡ Some (becomes (resized w.image) is.planned.moved p)
      → SegmentAt w is f type
  GoneSegment : (old : SegmentHeader) → segment_of_type type f.parts.segments ≡ Some old → CanGo old → segment_of_type type w.image.segments ≡ None
      → segment_of_type type w.plan.segments ≡ None
      → SegmentAt w is f type

pub segments_are : (w : Output) (is : IsPlannedOutput w) → w.plan.segments ≡ written_segments (resized w.image) is.planned.moved
unfolding plan_for
segments_are w is = ap (λ (l : Plan). l.segments) is.planned.follows

pub all_places_are : (w : Output) (is : IsPlannedOutput w) → w.plan.places ≡ places (resized w.image) is.planned.moved
unfolding plan_for
all_places_are w is = ap (λ (l : Plan). l.places) is.planned.follows

pub segment_at : (w : Output) (is : IsPlannedOutput w) (f : ReadFacts w) (type : ℕ) → (PT_LOAD == type) ≡ false
    → (PT_GNU_STACK == type) ≡ false → is_one_of single_segment_types type ≡ true → SegmentAt w is f type
segment_at w is f type no_load no_stack single =
    by_found (find-segment (image_at_read w.image).header.e_phoff w.image.page_size type no_load no_stack (image_at_read w.image).segments w.image.segments f.edit.segments
    (subst (λ (l : List SegmentHeader). count_by (has_type type) l ≤ 1) (sym f.holds.segments) (one_segment f.parts f.rules type single)))
  where
    were : segment_of_type type f.parts.segments ≡ segment_of_type type (image_at_read w.image).segments
    were = sym (ap (segment_of_type type) f.holds.segments)

    now : segment_of_type type w.plan.segments ≡ option_map (becomes (resized w.image) is.planned.moved)
        (segment_of_type type w.image.segments)
    now = ap (segment_of_type type) (segments_are w is) ∙ segment_written type no_load (resized w.image) is.planned.moved

    by_found : Found w.image.page_size (image_at_read w.image).segments w.image.segments type → SegmentAt w is f type
    by_found (Neither no_old none) = NoSegment (were ∙ no_old) none
        (now ∙ ap (option_map (becomes (resized w.image) is.planned.moved)) none)
    by_found (Both old p at_old at_p like) =
        ASegment old p (were ∙ at_old) at_p like (now ∙ ap (option_map (becomes (resized w.image) is.planned.moved)) at_p)
    by_found (Gone old at_old can none) =
        GoneSegment old (were ∙ at_old) can none (now ∙ ap (option_map (becomes (resized w.image) is.planned.moved)) none)
