-- Loaded segments that were laid out anew: what is left of the program headers that were read, and where the loaded ones end.
use Rattle.std.proofs.Common.{◌≡◌, ℕ, ◌+◌, ◌≤◌, Bool, true, false, cond, List, [], ◌∷◌, map, refl, sym, ap, ◌∙◌, inl, inr, subst, Option, Some, arith}
use Rattle.std.specs.Prelude.{◌==◌, ◌||◌, count_by, filter, find, fold, if◌then◌else◌, max}
use Rattle.std.specs.List.{list_any}
use Rattle.std.proofs.lemmas.Bool.{eqb-true}
use Rattle.std.proofs.lemmas.List.{append-nil}
use Rattle.std.proofs.lemmas.List.Elements.{filter-append}
use Rattle.elf_format.specs.declared.constants.TheConstants.{PT_GNU_STACK, PT_LOAD}
use Rattle.elf_format.specs.declared.records.SegmentHeader.{SegmentHeader}
use Rattle.elf_format.specs.File.{is_loaded, loads_of}
use Rattle.elf_format.specs.Placement.{memory_part}
use Rattle.elf_format.specs.Ranges.{end_of}
use Rattle.elf_image.specs.Edited.{AreUnclaimed, IsReclaimed}
use Rattle.elf_image.proofs.ListsLeft.{count_first}
use Rattle.elf_image_headers.specs.Segments.{added_stack, loads_end, with_align, with_load_align, with_stack_added, with_stack_flags}

-- ## What is left of those that were read

module _ (table end : ℕ) where
  -- all loaded segments are left, where none went
  pub none_went : (ps : List SegmentHeader) → AreUnclaimed table end ps ps
  none_went [] = tt
  none_went (p ∷ ps) = inl (refl, none_went ps)

  -- one that went, before others
  pub one_went : (old : SegmentHeader) (olds ps : List SegmentHeader) → IsReclaimed table end old → AreUnclaimed table end olds ps → AreUnclaimed table end (old ∷ olds) ps
  one_went old olds [] went h = (went, h)
  one_went old olds (p ∷ ps) went h = inr (went, h)

  -- further ones that go
  pub more_went : (keep : SegmentHeader → Bool) → ((p : SegmentHeader) → keep p ≡ false → IsReclaimed table end p) → (olds ps : List SegmentHeader)
      → AreUnclaimed table end olds ps → AreUnclaimed table end olds (filter keep ps)
  more_went keep goes [] [] h = tt
  more_went keep goes [] (p ∷ ps) h = absurd h
  more_went keep goes (old ∷ olds) [] h = h
  more_went keep goes (old ∷ olds) (p ∷ ps) h = elim h [
    | inl same ↦ by_keep (keep p) refl same.0 (more_went keep goes olds ps same.1)
    | inr gone ↦ one_went old olds (filter keep (p ∷ ps)) gone.0 (more_went keep goes olds (p ∷ ps) gone.1)
  ]
    where
      by_keep : (b : Bool) → keep p ≡ b → p ≡ old → AreUnclaimed table end olds (filter keep ps) → AreUnclaimed table end (old ∷ olds) (cond b (p ∷ filter keep ps) (filter keep ps))
      by_keep true stays is rest = inl (is, rest)
      by_keep false fails is rest = one_went old olds (filter keep ps) (subst (λ (q : SegmentHeader). IsReclaimed table end q) is (goes p fails)) rest

  -- what is no loaded segment is found as it was
  pub find_unclaimed : (f : SegmentHeader → Bool) → ((p : SegmentHeader) → p.p_type ≡ PT_LOAD → f p ≡ false) → (olds ps : List SegmentHeader)
      → AreUnclaimed table end olds ps → find f ps ≡ find f olds
  find_unclaimed f other [] [] h = refl
  find_unclaimed f other [] (p ∷ ps) h = absurd h
  find_unclaimed f other (old ∷ olds) [] h = find_unclaimed f other olds [] h.1 ∙ sym (ap (λ (b : Bool). if b then Some old else find f olds) (other old h.0.loaded))
  find_unclaimed f other (old ∷ olds) (p ∷ ps) h = elim h [
    | inl same ↦
        ap (λ (q : SegmentHeader). if f q then Some q else find f ps) same.0
        ∙ ap (λ (o : Option SegmentHeader). if f old then Some old else o) (find_unclaimed f other olds ps same.1)
    | inr gone ↦ find_unclaimed f other olds (p ∷ ps) gone.1 ∙ sym (ap (λ (b : Bool). if b then Some old else find f olds) (other old gone.0.loaded))
  ]

  abbrev one_if : Bool → ℕ
  one_if b = cond b 1 0

  went_count : (f : SegmentHeader → Bool) → ((p : SegmentHeader) → p.p_type ≡ PT_LOAD → f p ≡ false) → (old : SegmentHeader) (olds ps : List SegmentHeader)
      → IsReclaimed table end old → count_by f ps ≡ count_by f olds → count_by f ps ≡ count_by f (old ∷ olds)
  went_count f other old olds ps went rest =
      let none : one_if (f old) ≡ 0 = ap {B = ℕ} (λ (b : Bool). one_if b) (other old went.loaded) in
      let all : count_by f (old ∷ olds) ≡ one_if (f old) + count_by f olds = count_first f old olds in
      omega (arith, rest, none, all)

  -- there are as many program headers that pass a test that fails for loaded segments
  pub count_unclaimed : (f : SegmentHeader → Bool) → ((p : SegmentHeader) → p.p_type ≡ PT_LOAD → f p ≡ false) → (olds ps : List SegmentHeader)
      → AreUnclaimed table end olds ps → count_by f ps ≡ count_by f olds
  count_unclaimed f other [] [] h = refl
  count_unclaimed f other [] (p ∷ ps) h = absurd h
  count_unclaimed f other (old ∷ olds) [] h = went_count f other old olds [] h.0 (count_unclaimed f other olds [] h.1)
  count_unclaimed f other (old ∷ olds) (p ∷ ps) h = elim h [
    | inl same ↦
        let rest : count_by f ps ≡ count_by f olds = count_unclaimed f other olds ps same.1 in
        count_first f p ps ∙ ap (λ (q : SegmentHeader). one_if (f q) + count_by f ps) same.0 ∙ ap (λ (n : ℕ). one_if (f old) + n) rest
        ∙ sym (count_first f old olds)
    | inr gone ↦ went_count f other old olds (p ∷ ps) gone.0 (count_unclaimed f other olds (p ∷ ps) gone.1)
  ]

  -- whether one of the program headers passes a test stays
  pub any_unclaimed : (f : SegmentHeader → Bool) → ((p : SegmentHeader) → p.p_type ≡ PT_LOAD → f p ≡ false) → (olds ps : List SegmentHeader)
      → AreUnclaimed table end olds ps → list_any f ps ≡ list_any f olds
  any_unclaimed f other [] [] h = refl
  any_unclaimed f other [] (p ∷ ps) h = absurd h
  any_unclaimed f other (old ∷ olds) [] h = any_unclaimed f other olds [] h.1 ∙ sym (ap (λ (b : Bool). b || list_any f olds) (other old h.0.loaded))
  any_unclaimed f other (old ∷ olds) (p ∷ ps) h = elim h [
    | inl same ↦
        ap (λ (q : SegmentHeader). f q || list_any f ps) same.0 ∙ ap (λ (b : Bool). f old || b) (any_unclaimed f other olds ps same.1)
    | inr gone ↦ any_unclaimed f other olds (p ∷ ps) gone.1 ∙ sym (ap (λ (b : Bool). b || list_any f olds) (other old gone.0.loaded))
  ]

-- where the loaded segments that are there end no further behind, what went could go as well
pub end_less : (table end less : ℕ) → less ≤ end → (olds ps : List SegmentHeader) → AreUnclaimed table end olds ps → AreUnclaimed table less olds ps
end_less table end less h [] [] is = tt
end_less table end less h [] (p ∷ ps) is = absurd is
end_less table end less h (old ∷ olds) [] is = (one_less old is.0, end_less table end less h olds [] is.1)
  where
    one_less : (p : SegmentHeader) → IsReclaimed table end p → IsReclaimed table less p
    one_less p went = record { loaded = went.loaded; behind = let far = went.behind in omega (arith, far, h); no_header = went.no_header; no_table = went.no_table }
end_less table end less h (old ∷ olds) (p ∷ ps) is = elim is [
  | inl same ↦ inl (same.0, end_less table end less h olds ps same.1)
  | inr gone ↦ inr (one_less gone.0, end_less table end less h olds (p ∷ ps) gone.1)
]
  where
    one_less : IsReclaimed table end old → IsReclaimed table less old
    one_less went = record { loaded = went.loaded; behind = let far = went.behind in omega (arith, far, h); no_header = went.no_header; no_table = went.no_table }

-- ## Where the loaded segments end

abbrev ends_of : List SegmentHeader → List ℕ
ends_of ps = map (λ p. end_of (memory_part p)) (loads_of ps)

ends_aligned : (n : ℕ) (ps : List SegmentHeader) → ends_of (with_load_align n ps) ≡ ends_of ps
ends_aligned n [] = refl
ends_aligned n (p ∷ ps) = by_load (is_loaded p) (ends_aligned n ps)
  where
    by_load : (b : Bool) → ends_of (with_load_align n ps) ≡ ends_of ps
        → map (λ (q : SegmentHeader). end_of (memory_part q)) (cond b (with_align n p ∷ loads_of (with_load_align n ps)) (loads_of (with_load_align n ps)))
        ≡ map (λ (q : SegmentHeader). end_of (memory_part q)) (cond b (p ∷ loads_of ps) (loads_of ps))
    by_load true same = ap (λ (ns : List ℕ). end_of (memory_part p) ∷ ns) same
    by_load false same = same

-- the loaded segments with another alignment
pub end_aligned : (n : ℕ) (ps : List SegmentHeader) → loads_end (with_load_align n ps) ≡ loads_end ps
end_aligned n ps = ap (λ (ns : List ℕ). fold max 0 ns) (ends_aligned n ps)

-- a program header for the stack isn't loaded
stack_isnt : (p : SegmentHeader) → (p.p_type == PT_GNU_STACK) ≡ true → is_loaded p ≡ false
stack_isnt p h = ap (λ (n : ℕ). n == PT_LOAD) (eqb-true p.p_type PT_GNU_STACK h)

pub loads_flagged : (flags : ℕ) (ps : List SegmentHeader) → loads_of (with_stack_flags flags ps) ≡ loads_of ps
unfolding with_stack_flags
loads_flagged flags [] = refl
loads_flagged flags (p ∷ ps) = by_stack (p.p_type == PT_GNU_STACK) refl (loads_flagged flags ps)
  where
    by_stack : (b : Bool) → (p.p_type == PT_GNU_STACK) ≡ b → loads_of (with_stack_flags flags ps) ≡ loads_of ps
        → loads_of (if b then record p { p_flags = flags } ∷ ps else p ∷ with_stack_flags flags ps) ≡ loads_of (p ∷ ps)
    by_stack true stack same =
        let isnt : is_loaded p ≡ false = stack_isnt p stack in
        ap (λ (c : Bool). cond c (record p { p_flags = flags } ∷ loads_of ps) (loads_of ps)) isnt ∙ sym (ap (λ (c : Bool). cond c (p ∷ loads_of ps) (loads_of ps)) isnt)
    by_stack false other same = ap (λ (qs : List SegmentHeader). cond (is_loaded p) (p ∷ qs) qs) same

pub loads_pushed : (flags : ℕ) (ps : List SegmentHeader) → loads_of (with_stack_added flags ps) ≡ loads_of ps
loads_pushed flags ps = filter-append is_loaded ps (added_stack flags ∷ []) ∙ append-nil (loads_of ps)

-- where only others go, the loaded ones stay
pub loads_filtered : (keep : SegmentHeader → Bool) → ((p : SegmentHeader) → keep p ≡ false → is_loaded p ≡ false) → (ps : List SegmentHeader)
    → loads_of (filter keep ps) ≡ loads_of ps
loads_filtered keep others [] = refl
loads_filtered keep others (p ∷ ps) = by_keep (keep p) refl (loads_filtered keep others ps)
  where
    by_keep : (b : Bool) → keep p ≡ b → loads_of (filter keep ps) ≡ loads_of ps → loads_of (cond b (p ∷ filter keep ps) (filter keep ps)) ≡ loads_of (p ∷ ps)
    by_keep true stays same = ap (λ (qs : List SegmentHeader). cond (is_loaded p) (p ∷ qs) qs) same
    by_keep false fails same = same ∙ sym (ap (λ (c : Bool). cond c (p ∷ loads_of ps) (loads_of ps)) (others p fails))

pub end_same : (ps qs : List SegmentHeader) → loads_of ps ≡ loads_of qs → loads_end ps ≡ loads_end qs
end_same ps qs same = ap (λ (ls : List SegmentHeader). fold max 0 (map (λ p. end_of (memory_part p)) ls)) same

-- where some go, the others end no further behind
least : (n m : ℕ) (ns : List ℕ) → n ≤ m → fold max n ns ≤ fold max m ns
least n m [] h = h
least n m (k ∷ ns) h = least (max n k) (max m k) ns (omega (arith, h))

abbrev end_after : ℕ → List SegmentHeader → ℕ
end_after n qs = fold max n (ends_of qs)

one_end : (n : ℕ) (p : SegmentHeader) (qs : List SegmentHeader) (b : Bool) → is_loaded p ≡ b
    → fold max n (map (λ (q : SegmentHeader). end_of (memory_part q)) (cond b (p ∷ loads_of qs) (loads_of qs))) ≡ end_after (cond b (max n (end_of (memory_part p))) n) qs
one_end n p qs true is = refl
one_end n p qs false is = refl

no_less : (n m : ℕ) (b : Bool) → n ≤ cond b (max n m) n
no_less n m true = omega arith
no_less n m false = omega arith

filtered_after : (keep : SegmentHeader → Bool) (n : ℕ) (ps : List SegmentHeader) → end_after n (filter keep ps) ≤ end_after n ps
filtered_after keep n [] = omega arith
filtered_after keep n (p ∷ ps) =
    by_keep (keep p) (filtered_after keep (cond (is_loaded p) (max n (end_of (memory_part p))) n) ps) (filtered_after keep n ps)
  where
    next : ℕ
    next = cond (is_loaded p) (max n (end_of (memory_part p))) n

    by_keep : (b : Bool) → end_after next (filter keep ps) ≤ end_after next ps → end_after n (filter keep ps) ≤ end_after n ps
        → end_after n (cond b (p ∷ filter keep ps) (filter keep ps)) ≤ end_after n (p ∷ ps)
    by_keep true with_it without =
        let one : end_after n (p ∷ filter keep ps) ≡ end_after next (filter keep ps) = one_end n p (filter keep ps) (is_loaded p) refl in
        let all : end_after n (p ∷ ps) ≡ end_after next ps = one_end n p ps (is_loaded p) refl in
        omega (arith, one, all, with_it)
    by_keep false with_it without =
        let all : end_after n (p ∷ ps) ≡ end_after next ps = one_end n p ps (is_loaded p) refl in
        let further : end_after n ps ≤ end_after next ps = least n next (ends_of ps) (no_less n (end_of (memory_part p)) (is_loaded p)) in
        omega (arith, all, without, further)

pub end_filtered : (keep : SegmentHeader → Bool) (ps : List SegmentHeader) → loads_end (filter keep ps) ≤ loads_end ps
end_filtered keep ps = filtered_after keep 0 ps
