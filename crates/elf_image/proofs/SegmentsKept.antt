-- Each change of an image leaves one that was read and edited.
use Rattle.std.proofs.Common.{◌≡◌, ℕ, Bool, true, false, cond, List, [], ◌∷◌, ◌++◌, refl, sym, ap, ◌∙◌, inl, inr, subst, Option, Some, None}
use Rattle.std.specs.Prelude.{◌==◌, if◌then◌else◌, IsSome, is_some, unwrap_or}
use Rattle.std.specs.Option.{option_map, option_to_list}
use Rattle.std.proofs.lemmas.Bool.{ne_eqb}
use Rattle.std.proofs.lemmas.List.{append-nil, map-append}
use Rattle.std.proofs.lemmas.Option.{none-some}
use Rattle.elf_format.specs.declared.constants.TheConstants.{PT_GNU_STACK, PT_INTERP, PT_LOAD}
use Rattle.elf_format.specs.declared.records.SegmentHeader.{SegmentHeader}
use Rattle.elf_format.specs.File.{segment_of_type}
use Rattle.elf_image.specs.Edited.{AreKept, AreSegments, AreUnclaimed, CanGo, kept_segment}
use Rattle.elf_image_headers.specs.Segments.{added_stack, loads_end, with_align, with_load_align, with_stack_added, with_stack_flags}
use Rattle.elf_image.proofs.Unclaimed.{end_aligned, end_same, find_unclaimed, loads_flagged, loads_pushed}

-- ## Program headers

either_again : (b : Bool) (n x y : ℕ) → (if b then n else (if b then x else y)) ≡ (if b then n else y)
either_again true n x y = refl
either_again false n x y = refl

-- an aligned program header is as it is kept under that page size
aligned_as : (old p : SegmentHeader) (size : Option ℕ) (n : ℕ) → p ≡ kept_segment size p.p_flags old → with_align n p ≡ kept_segment (Some n) p.p_flags old
aligned_as old p size n is =
    ap (with_align n) is
    ∙ ap (λ (a : ℕ). record (kept_segment size p.p_flags old) { p_align = a }) (either_again (old.p_type == PT_LOAD) n (unwrap_or size old.p_align) old.p_align)

aligned_kept : (size : Option ℕ) (n : ℕ) (olds ps : List SegmentHeader) → AreKept size olds ps → AreKept (Some n) olds (with_load_align n ps)
aligned_kept size n [] [] h = tt
aligned_kept size n [] (p ∷ ps) h = absurd h
aligned_kept size n (old ∷ olds) [] h = (h.0, aligned_kept size n olds [] h.1)
aligned_kept size n (old ∷ olds) (p ∷ ps) h = elim h [
  | inl same ↦ inl (aligned_as old p size n same.0, aligned_kept size n olds ps same.1)
  | inr gone ↦ inr (gone.0, aligned_kept size n olds (p ∷ ps) gone.1)
]

added_aligned : (n : ℕ) (o : Option ℕ) → with_load_align n (option_to_list (option_map added_stack o)) ≡ option_to_list (option_map added_stack o)
added_aligned n None = refl
added_aligned n (Some flags) = refl

pub segments_aligned : (table : ℕ) (size : Option ℕ) (n : ℕ) (read now : List SegmentHeader) → AreSegments table size read now → AreSegments table (Some n) read (with_load_align n now)
segments_aligned table size n read now h = record {
  unclaimed = h.unclaimed;
  are_unclaimed = subst (λ (end : ℕ). AreUnclaimed table end read h.unclaimed) (sym (end_aligned n now)) h.are_unclaimed;
  loaded = h.loaded;
  kept = with_load_align n h.kept;
  added = h.added;
  are_kept = aligned_kept size n h.unclaimed h.kept h.are_kept;
  are_all = ap (with_load_align n) h.are_all ∙ map-append (with_align n) h.kept (option_to_list (option_map added_stack h.added)) ∙ ap (λ ps. with_load_align n h.kept ++ ps) (added_aligned n h.added);
  only_one = h.only_one;
}

-- a stack's program header with other flags is as it is kept
flagged_as : (old p : SegmentHeader) (size : Option ℕ) (flags : ℕ) → (p.p_type == PT_GNU_STACK) ≡ true → p ≡ kept_segment size p.p_flags old → record p { p_flags = flags } ≡ kept_segment size flags old
flagged_as old p size flags stack is =
    let typed : (old.p_type == PT_GNU_STACK) ≡ true = ap (λ (q : SegmentHeader). q.p_type == PT_GNU_STACK) (sym is) ∙ stack in
    ap (λ (q : SegmentHeader). record q { p_flags = flags }) is
    ∙ ap (λ b. record (kept_segment size p.p_flags old) { p_flags = if b then flags else old.p_flags }) (sym typed)

pub gone_kept : (size : Option ℕ) (old : SegmentHeader) (olds ps : List SegmentHeader) → CanGo old → AreKept size olds ps → AreKept size (old ∷ olds) ps
gone_kept size old olds [] go h = (go, h)
gone_kept size old olds (p ∷ ps) go h = inr (go, h)

-- the program headers after the stack's flags were set, in their two parts
record Flagged (size : Option ℕ) (flags : ℕ) (olds ps : List SegmentHeader) (o : Option ℕ) : Type 0 where
  kept : List SegmentHeader
  added : Option ℕ
  are_kept : AreKept size olds kept
  are_all : with_stack_flags flags (ps ++ option_to_list (option_map added_stack o)) ≡ kept ++ option_to_list (option_map added_stack added)
  only : IsSome added → IsSome o

flagged_added : (size : Option ℕ) (flags : ℕ) (olds : List SegmentHeader) (o : Option ℕ) → AreKept size olds [] → Flagged size flags olds [] o
unfolding with_stack_flags
flagged_added size flags olds None h = record { kept = []; added = None; are_kept = h; are_all = refl; only = λ s. s }
flagged_added size flags olds (Some f) h = record { kept = []; added = Some flags; are_kept = h; are_all = refl; only = λ s. refl }

flags-by : (flags : ℕ) (p : SegmentHeader) (ps : List SegmentHeader) (b : Bool) → (p.p_type == PT_GNU_STACK) ≡ b
    → with_stack_flags flags (p ∷ ps) ≡ (if b then record p { p_flags = flags } ∷ ps else p ∷ with_stack_flags flags ps)
unfolding with_stack_flags
flags-by flags p ps b h = ap (λ c. if c then record p { p_flags = flags } ∷ ps else p ∷ with_stack_flags flags ps) h

flagged_same : (size : Option ℕ) (flags : ℕ) (old : SegmentHeader) (olds : List SegmentHeader) (p : SegmentHeader) (ps : List SegmentHeader) (o : Option ℕ) (b : Bool) → (p.p_type == PT_GNU_STACK) ≡ b
    → p ≡ kept_segment size p.p_flags old → AreKept size olds ps → Flagged size flags olds ps o → Flagged size flags (old ∷ olds) (p ∷ ps) o
flagged_same size flags old olds p ps o true stack is kept more = record {
  kept = record p { p_flags = flags } ∷ ps;
  added = o;
  are_kept = inl (flagged_as old p size flags stack is, kept);
  are_all = flags-by flags p (ps ++ option_to_list (option_map added_stack o)) true stack;
  only = λ s. s;
}
flagged_same size flags old olds p ps o false other is kept more = record {
  kept = p ∷ more.kept;
  added = more.added;
  are_kept = inl (is, more.are_kept);
  are_all = flags-by flags p (ps ++ option_to_list (option_map added_stack o)) false other ∙ ap (λ qs. p ∷ qs) more.are_all;
  only = more.only;
}

flagged_kept : (size : Option ℕ) (flags : ℕ) (olds ps : List SegmentHeader) (o : Option ℕ) → AreKept size olds ps → Flagged size flags olds ps o
flagged_kept size flags [] [] o h = flagged_added size flags [] o h
flagged_kept size flags [] (p ∷ ps) o h = absurd h
flagged_kept size flags (old ∷ olds) [] o h = flagged_added size flags (old ∷ olds) o h
flagged_kept size flags (old ∷ olds) (p ∷ ps) o h = elim h [
  | inl same ↦ flagged_same size flags old olds p ps o (p.p_type == PT_GNU_STACK) refl same.0 same.1 (flagged_kept size flags olds ps o same.1)
  | inr gone ↦
      let more = flagged_kept size flags olds (p ∷ ps) o gone.1 in
      record { kept = more.kept; added = more.added; are_kept = gone_kept size old olds more.kept gone.0 more.are_kept; are_all = more.are_all; only = more.only }
]

pub segments_flagged : (table : ℕ) (size : Option ℕ) (flags : ℕ) (read now : List SegmentHeader) → AreSegments table size read now → AreSegments table size read (with_stack_flags flags now)
segments_flagged table size flags read now h =
    let made = flagged_kept size flags h.unclaimed h.kept h.added h.are_kept in
    let end : loads_end (with_stack_flags flags now) ≡ loads_end now = end_same (with_stack_flags flags now) now (loads_flagged flags now) in
    record {
      unclaimed = h.unclaimed;
      are_unclaimed = subst (λ (e : ℕ). AreUnclaimed table e read h.unclaimed) (sym end) h.are_unclaimed;
      loaded = h.loaded;
      kept = made.kept;
      added = made.added;
      are_kept = made.are_kept;
      are_all = ap (with_stack_flags flags) h.are_all ∙ made.are_all;
      only_one = λ some. h.only_one (made.only some);
    }

-- without a program header for the stack none was read, and none was added
first-by : (p : SegmentHeader) (ps : List SegmentHeader) (b : Bool) → (p.p_type == PT_GNU_STACK) ≡ b → segment_of_type PT_GNU_STACK (p ∷ ps) ≡ cond b (Some p) (segment_of_type PT_GNU_STACK ps)
first-by p ps b h = ap (λ c. cond c (Some p) (segment_of_type PT_GNU_STACK ps)) h

none_first : (p : SegmentHeader) (ps : List SegmentHeader) (b : Bool) → (p.p_type == PT_GNU_STACK) ≡ b → segment_of_type PT_GNU_STACK (p ∷ ps) ≡ None
    → ((p.p_type == PT_GNU_STACK) ≡ false) × (segment_of_type PT_GNU_STACK ps ≡ None)
none_first p ps true h e = absurd (none-some p (sym (sym (first-by p ps true h) ∙ e)))
none_first p ps false h e = (h, sym (first-by p ps false h) ∙ e)

none_read : (size : Option ℕ) (olds ps more : List SegmentHeader) → AreKept size olds ps → segment_of_type PT_GNU_STACK (ps ++ more) ≡ None
    → (segment_of_type PT_GNU_STACK olds ≡ None) × (segment_of_type PT_GNU_STACK more ≡ None)
none_read size [] [] more h e = (refl, e)
none_read size [] (p ∷ ps) more h e = absurd h
none_read size (old ∷ olds) [] more h e =
    let (rest, others) = none_read size olds [] more h.1 e in
    (first-by old olds false (ne_eqb old.p_type PT_GNU_STACK h.0.2) ∙ rest, others)
none_read size (old ∷ olds) (p ∷ ps) more h e = elim h [
  | inl same ↦
      let (typed, behind) = none_first p (ps ++ more) (p.p_type == PT_GNU_STACK) refl e in
      let (rest, others) = none_read size olds ps more same.1 behind in
      (first-by old olds false (ap (λ (q : SegmentHeader). q.p_type == PT_GNU_STACK) (sym same.0) ∙ typed) ∙ rest, others)
  | inr gone ↦
      let (rest, others) = none_read size olds (p ∷ ps) more gone.1 e in
      (first-by old olds false (ne_eqb old.p_type PT_GNU_STACK gone.0.2) ∙ rest, others)
]

none_added : (o : Option ℕ) → segment_of_type PT_GNU_STACK (option_to_list (option_map added_stack o)) ≡ None → o ≡ None
none_added None h = refl
none_added (Some flags) h = absurd (none-some (added_stack flags) (sym h))

pub segments_pushed : (table : ℕ) (size : Option ℕ) (flags : ℕ) (read now : List SegmentHeader) → segment_of_type PT_GNU_STACK now ≡ None → AreSegments table size read now → AreSegments table size read (with_stack_added flags now)
segments_pushed table size flags read now none h =
    let (unclaimed, unadded) = none_read size h.unclaimed h.kept (option_to_list (option_map added_stack h.added)) h.are_kept (ap (segment_of_type PT_GNU_STACK) (sym h.are_all) ∙ none) in
    let unread : segment_of_type PT_GNU_STACK read ≡ None =
    sym (find_unclaimed table (loads_end now) (λ p. p.p_type == PT_GNU_STACK) (λ p load. ap (λ (n : ℕ). n == PT_GNU_STACK) load) read h.unclaimed h.are_unclaimed) ∙ unclaimed in
    let end : loads_end (with_stack_added flags now) ≡ loads_end now = end_same (with_stack_added flags now) now (loads_pushed flags now) in
    let all : now ≡ h.kept = h.are_all ∙ ap (λ o. h.kept ++ option_to_list (option_map added_stack o)) (none_added h.added unadded) ∙ append-nil h.kept in
    record {
      unclaimed = h.unclaimed;
      are_unclaimed = subst (λ (e : ℕ). AreUnclaimed table e read h.unclaimed) (sym end) h.are_unclaimed;
      loaded = h.loaded;
      kept = h.kept;
      added = Some flags;
      are_kept = h.are_kept;
      are_all = ap (with_stack_added flags) all;
      only_one = λ _. unread;
    }

-- ## Program headers of other types

there_by : (b : Bool) (x y : SegmentHeader) (o q : Option SegmentHeader) → is_some o ≡ is_some q → is_some (if b then Some x else o) ≡ is_some (if b then Some y else q)
there_by true x y o q same = refl
there_by false x y o q same = same

-- the same program headers of a type are there under another alignment
pub type_aligned : (type n : ℕ) (ps : List SegmentHeader) → is_some (segment_of_type type (with_load_align n ps)) ≡ is_some (segment_of_type type ps)
type_aligned type n [] = refl
type_aligned type n (p ∷ ps) = there_by (p.p_type == type) (with_align n p) p (segment_of_type type (with_load_align n ps)) (segment_of_type type ps) (type_aligned type n ps)

-- with other flags of the stack
pub type_flagged : (type flags : ℕ) (ps : List SegmentHeader) → is_some (segment_of_type type (with_stack_flags flags ps)) ≡ is_some (segment_of_type type ps)
unfolding with_stack_flags
type_flagged type flags [] = refl
type_flagged type flags (p ∷ ps) = by_stack (p.p_type == PT_GNU_STACK) (type_flagged type flags ps)
  where
    by_stack : (b : Bool) → is_some (segment_of_type type (with_stack_flags flags ps)) ≡ is_some (segment_of_type type ps)
        → is_some (segment_of_type type (if b then record p { p_flags = flags } ∷ ps else p ∷ with_stack_flags flags ps)) ≡ is_some (segment_of_type type (p ∷ ps))
    by_stack true more = there_by (p.p_type == type) (record p { p_flags = flags }) p (segment_of_type type ps) (segment_of_type type ps) refl
    by_stack false more = there_by (p.p_type == type) p p (segment_of_type type (with_stack_flags flags ps)) (segment_of_type type ps) more

-- program headers of the interpreter stay where one for the stack is added
pub type_added : (flags : ℕ) (ps : List SegmentHeader) → is_some (segment_of_type PT_INTERP (with_stack_added flags ps)) ≡ is_some (segment_of_type PT_INTERP ps)
type_added flags [] = refl
type_added flags (p ∷ ps) = there_by (p.p_type == PT_INTERP) p p (segment_of_type PT_INTERP (with_stack_added flags ps)) (segment_of_type PT_INTERP ps) (type_added flags ps)
