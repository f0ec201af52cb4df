-- Spare segments under edits of the program headers: another alignment and other flags of the stack leave which ones are spare, and
-- once those have gone no further one is.
use Rattle.std.proofs.Common.{◌≡◌, ℕ, ◌+◌, ◌<◌, ◌≤◌, Bool, true, false, cond, not, ◌&&◌, ◌||◌, List, [], ◌∷◌, length, map, filter, refl, sym, ap, ◌∙◌, Option, Some, None, arith}
use Rattle.std.specs.Prelude.{◌==◌, count_by, find, fold, if◌then◌else◌, is_none, max, nat_le, nat_lt, sum_by}
use Rattle.std.specs.List.{list_any}
use Rattle.std.proofs.lemmas.Bool.{eqb-true, lt-leb, ltb-true}
use Rattle.std.proofs.lemmas.List.Sums.{sum_by-cons}
use Rattle.patch_bytes.specs.Number.{field}
use Rattle.elf_format.specs.declared.constants.TheConstants.{PT_DYNAMIC, PT_GNU_PROPERTY, PT_GNU_STACK, PT_INTERP, PT_LOAD, PT_NOTE, SHF_ALLOC}
use Rattle.elf_format.specs.declared.records.SegmentHeader.{SegmentHeader}
use Rattle.elf_format.specs.File.{is_loaded, segment_of_type}
use Rattle.elf_format.specs.Options.{is_one_of}
use Rattle.elf_format.specs.Placement.{memory_part}
use Rattle.elf_format.specs.Places.{is_set}
use Rattle.elf_format.specs.Ranges.{end_of}
use Rattle.elf_image.proofs.ForCallers.ListsLeft.{count_first}
use Rattle.elf_image.specs.Segments.{loads_end}
use Rattle.elf_image.specs.Spare.{SpareFacts, can_reclaim, could_be_spare, count_filled, count_others, filled_in_sections, filled_in_spare, fixed_end, fixed_sections_end, has_place, is_fixed_segment, is_spare, others_end, segments_reclaimed, strings_number, without_spare}
use Rattle.elf_edits.specs.declared.constants.TheConstants.{MOST_SEGMENTS, STACK_FLAGS}
use Rattle.elf_edits.specs.Edited.{added_stack, with_align, with_load_align, with_stack_changed}

-- ## Filters

module _ {A : Type 0} (keep : A → Bool) where
  -- what goes would go anyway
  filter_filtered : (test : A → Bool) → ((x : A) → keep x ≡ false → test x ≡ false) → (xs : List A) → filter test (filter keep xs) ≡ filter test xs
  filter_filtered test less [] = refl
  filter_filtered test less (x ∷ xs) = by_keep (keep x) refl (filter_filtered test less xs)
    where
      by_keep : (b : Bool) → keep x ≡ b → filter test (filter keep xs) ≡ filter test xs
          → filter test (cond b (x ∷ filter keep xs) (filter keep xs)) ≡ cond (test x) (x ∷ filter test xs) (filter test xs)
      by_keep true is same = ap (λ (l : List A). cond (test x) (x ∷ l) l) same
      by_keep false is same = same ∙ sym (ap (λ (b : Bool). cond b (x ∷ filter test xs) (filter test xs)) (less x is))

  find_filtered : (test : A → Bool) → ((x : A) → keep x ≡ false → test x ≡ false) → (xs : List A) → find test (filter keep xs) ≡ find test xs
  find_filtered test less [] = refl
  find_filtered test less (x ∷ xs) = by_keep (keep x) refl (find_filtered test less xs)
    where
      by_keep : (b : Bool) → keep x ≡ b → find test (filter keep xs) ≡ find test xs
          → find test (cond b (x ∷ filter keep xs) (filter keep xs)) ≡ (if test x then Some x else find test xs)
      by_keep true is same = ap (λ (o : Option A). if test x then Some x else o) same
      by_keep false is same = same ∙ sym (ap (λ (b : Bool). if b then Some x else find test xs) (less x is))

  filter_mapped : (f : A → A) → ((x : A) → keep (f x) ≡ keep x) → (xs : List A) → filter keep (map f xs) ≡ map f (filter keep xs)
  filter_mapped f same [] = refl
  filter_mapped f same (x ∷ xs) =
      ap (λ (b : Bool). cond b (f x ∷ filter keep (map f xs)) (filter keep (map f xs))) (same x)
      ∙ ap (λ (l : List A). cond (keep x) (f x ∷ l) l) (filter_mapped f same xs) ∙ by_keep (keep x)
    where
      by_keep : (b : Bool) → cond b (f x ∷ map f (filter keep xs)) (map f (filter keep xs)) ≡ map f (cond b (x ∷ filter keep xs) (filter keep xs))
      by_keep true = refl
      by_keep false = refl

map_mapped : {A B : Type 0} (h : A → B) (f : A → A) → ((x : A) → h (f x) ≡ h x) → (xs : List A) → map h (map f xs) ≡ map h xs
map_mapped h f same [] = refl
map_mapped h f same (x ∷ xs) = ap (λ y. y ∷ map h (map f xs)) (same x) ∙ ap (λ l. h x ∷ l) (map_mapped h f same xs)

-- one where a test holds
abbrev one_if : Bool → ℕ
one_if b = cond b 1 0

count_mapped : {A : Type 0} (test : A → Bool) (f : A → A) → ((x : A) → test (f x) ≡ test x) → (xs : List A) → count_by test (map f xs) ≡ count_by test xs
count_mapped test f same [] = refl
count_mapped test f same (x ∷ xs) =
    let first : one_if (test (f x)) ≡ one_if (test x) = ap (λ (b : Bool). one_if b) (same x) in
    let rest : count_by test (map f xs) ≡ count_by test xs = count_mapped test f same xs in
    let new : count_by test (f x ∷ map f xs) ≡ one_if (test (f x)) + count_by test (map f xs) = count_first test (f x) (map f xs) in
    let old : count_by test (x ∷ xs) ≡ one_if (test x) + count_by test xs = count_first test x xs in
    omega (arith, first, rest, new, old)

-- no more pass a test where some go
count_filtered : {A : Type 0} (test keep : A → Bool) (xs : List A) → count_by test (filter keep xs) ≤ count_by test xs
count_filtered test keep [] = omega arith
count_filtered test keep (x ∷ xs) = by_keep (keep x) (count_filtered test keep xs)
  where
    by_keep : (b : Bool) → count_by test (filter keep xs) ≤ count_by test xs → count_by test (cond b (x ∷ filter keep xs) (filter keep xs)) ≤ count_by test (x ∷ xs)
    by_keep true less =
        let new : count_by test (x ∷ filter keep xs) ≡ one_if (test x) + count_by test (filter keep xs) = count_first test x (filter keep xs) in
        let old : count_by test (x ∷ xs) ≡ one_if (test x) + count_by test xs = count_first test x xs in
        omega (arith, new, old, less)
    by_keep false less =
        let old : count_by test (x ∷ xs) ≡ one_if (test x) + count_by test xs = count_first test x xs in
        omega (arith, old, less)

sum_mapped : {A : Type 0} (h : A → ℕ) (f : A → A) → ((x : A) → h (f x) ≡ h x) → (xs : List A) → sum_by h (map f xs) ≡ sum_by h xs
sum_mapped h f same [] = refl
sum_mapped h f same (x ∷ xs) =
    sum_by-cons h (f x) (map f xs) ∙ ap (λ n. n + sum_by h (map f xs)) (same x) ∙ ap (λ n. h x + n) (sum_mapped h f same xs)
    ∙ sym (sum_by-cons h x xs)

any_mapped : {A : Type 0} (test : A → Bool) (f : A → A) → ((x : A) → test (f x) ≡ test x) → (xs : List A) → list_any test (map f xs) ≡ list_any test xs
any_mapped test f same [] = refl
any_mapped test f same (x ∷ xs) =
    ap (λ b. b || list_any test (map f xs)) (same x) ∙ ap (λ b. test x || b) (any_mapped test f same xs)

-- ## What changes of program headers leave

-- where the furthest of some program headers ends
abbrev ends_most : List SegmentHeader → ℕ
ends_most ps = fold max 0 (map (λ p. end_of (memory_part p)) ps)

-- spare, by where what has to stay ends, the table's start, and where the other loaded segments end
abbrev spare_by : ℕ → ℕ → ℕ → SegmentHeader → Bool
spare_by end table least p = could_be_spare end table p && nat_le least p.p_vaddr

abbrev filled_in : List ℕ → SegmentHeader → ℕ
filled_in source p = count_filled (field p.p_filesz p.p_offset source)

-- the change leaves what spare segments are known by
record LeavesSpare (change : List SegmentHeader → List SegmentHeader) : Type 0 where
  interpreter : (ps : List SegmentHeader) → segment_of_type PT_INTERP (change ps) ≡ segment_of_type PT_INTERP ps
  fixed : (ps : List SegmentHeader) → ends_most (filter is_fixed_segment (change ps)) ≡ ends_most (filter is_fixed_segment ps)
  loads : (ps : List SegmentHeader) → loads_end (change ps) ≡ loads_end ps
  some : (ps : List SegmentHeader) → list_any is_loaded (change ps) ≡ list_any is_loaded ps
  counted : (ps : List SegmentHeader) → count_others (change ps) ≡ count_others ps
  others : (end table : ℕ) (ps : List SegmentHeader) → filter (λ p. not (could_be_spare end table p)) (change ps) ≡ change (filter (λ p. not (could_be_spare end table p)) ps)
  stay : (end table least : ℕ) (ps : List SegmentHeader) → filter (λ p. not (spare_by end table least p)) (change ps) ≡ change (filter (λ p. not (spare_by end table least p)) ps)
  filled : (end table least : ℕ) (source : List ℕ) (ps : List SegmentHeader)
      → sum_by (filled_in source) (filter (spare_by end table least) (change ps)) ≡ sum_by (filled_in source) (filter (spare_by end table least) ps)

-- the facts with other program headers
abbrev pub with_headers : List SegmentHeader → SpareFacts → SpareFacts
with_headers ps f = record f { segments = ps }

-- whether spare segments can be taken away, by what decides on it
abbrev reclaims : Bool → ℕ → ℕ → ℕ → ℕ → ℕ → Bool
reclaims some end least filled in_sections others = some && nat_le end least && filled == in_sections && nat_lt others MOST_SEGMENTS

either_way : (change : List SegmentHeader → List SegmentHeader) (b : Bool) (xs ys : List SegmentHeader) → (if b then change xs else change ys) ≡ change (if b then xs else ys)
either_way change true xs ys = refl
either_way change false xs ys = refl

module _ (change : List SegmentHeader → List SegmentHeader) (leaves : LeavesSpare change) (f : SpareFacts) where
  abbrev then_facts : SpareFacts
  then_facts = with_headers (change f.segments) f

  end_left : fixed_end then_facts ≡ fixed_end f
  unfolding fixed_end
  end_left =
      ap (λ (o : Option SegmentHeader). fixed_sections_end (strings_number f.sections) o (ends_most (filter is_fixed_segment (change f.segments))) f.numbers f.sections) (leaves.interpreter f.segments)
      ∙ ap (λ (n : ℕ). fixed_sections_end (strings_number f.sections) (segment_of_type PT_INTERP f.segments) n f.numbers f.sections) (leaves.fixed f.segments)

  others_left : others_end then_facts ≡ others_end f
  unfolding others_end
  others_left =
      ap (λ (n : ℕ). loads_end (filter (λ p. not (could_be_spare n f.table p)) (change f.segments))) end_left
      ∙ ap loads_end (leaves.others (fixed_end f) f.table f.segments)
      ∙ leaves.loads (filter (λ p. not (could_be_spare (fixed_end f) f.table p)) f.segments)

  stay_left : without_spare then_facts ≡ change (without_spare f)
  stay_left =
      ap (λ (n : ℕ). filter (λ p. not (spare_by n f.table (others_end then_facts) p)) (change f.segments)) end_left
      ∙ ap (λ (n : ℕ). filter (λ p. not (spare_by (fixed_end f) f.table n p)) (change f.segments)) others_left
      ∙ leaves.stay (fixed_end f) f.table (others_end f) f.segments

  filled_left : filled_in_spare then_facts ≡ filled_in_spare f
  filled_left =
      ap (λ (n : ℕ). sum_by (filled_in f.source) (filter (spare_by n f.table (others_end then_facts)) (change f.segments))) end_left
      ∙ ap (λ (n : ℕ). sum_by (filled_in f.source) (filter (spare_by (fixed_end f) f.table n) (change f.segments))) others_left
      ∙ leaves.filled (fixed_end f) f.table (others_end f) f.source f.segments

  sections_left : filled_in_sections then_facts ≡ filled_in_sections f
  sections_left =
      ap (λ (n : ℕ). sum_by (λ s. count_filled s.content) (filter (λ s. is_set SHF_ALLOC s.sh_flags && nat_le n s.sh_addr) f.sections)) others_left

  reclaims_left : can_reclaim then_facts ≡ can_reclaim f
  unfolding can_reclaim
  reclaims_left =
      let same : reclaims (list_any is_loaded (without_spare then_facts)) (loads_end (without_spare then_facts)) (others_end then_facts) (filled_in_spare then_facts) (filled_in_sections then_facts) (count_others (change f.segments))
      ≡ reclaims (list_any is_loaded (without_spare f)) (loads_end (without_spare f)) (others_end f) (filled_in_spare f) (filled_in_sections f) (count_others f.segments) =
      ap (λ (b : Bool). reclaims b (loads_end (without_spare then_facts)) (others_end then_facts) (filled_in_spare then_facts) (filled_in_sections then_facts) (count_others (change f.segments)))
      (ap (list_any is_loaded) stay_left ∙ leaves.some (without_spare f))
      ∙ ap (λ (n : ℕ). reclaims (list_any is_loaded (without_spare f)) n (others_end then_facts) (filled_in_spare then_facts) (filled_in_sections then_facts) (count_others (change f.segments)))
      (ap loads_end stay_left ∙ leaves.loads (without_spare f))
      ∙ ap (λ (n : ℕ). reclaims (list_any is_loaded (without_spare f)) (loads_end (without_spare f)) n (filled_in_spare then_facts) (filled_in_sections then_facts) (count_others (change f.segments))) others_left
      ∙ ap (λ (n : ℕ). reclaims (list_any is_loaded (without_spare f)) (loads_end (without_spare f)) (others_end f) n (filled_in_sections then_facts) (count_others (change f.segments))) filled_left
      ∙ ap (λ (n : ℕ). reclaims (list_any is_loaded (without_spare f)) (loads_end (without_spare f)) (others_end f) (filled_in_spare f) n (count_others (change f.segments))) sections_left
      ∙ ap (λ (n : ℕ). reclaims (list_any is_loaded (without_spare f)) (loads_end (without_spare f)) (others_end f) (filled_in_spare f) (filled_in_sections f) n) (leaves.counted f.segments) in
      same

  -- spare segments may go before or after this change
  reclaimed_left : segments_reclaimed then_facts ≡ change (segments_reclaimed f)
  unfolding segments_reclaimed
  reclaimed_left =
      ap (λ (b : Bool). if b then without_spare then_facts else change f.segments) reclaims_left
      ∙ ap (λ (l : List SegmentHeader). if can_reclaim f then l else change f.segments) stay_left
      ∙ either_way change (can_reclaim f) (without_spare f) f.segments

-- ## Another alignment

find_aligned : (n : ℕ) (ps : List SegmentHeader) → segment_of_type PT_INTERP (map (with_align n) ps) ≡ segment_of_type PT_INTERP ps
find_aligned n [] = refl
find_aligned n (p ∷ ps) = by_type (p.p_type == PT_INTERP) refl (find_aligned n ps)
  where
    same_header : (p.p_type == PT_INTERP) ≡ true → with_align n p ≡ p
    same_header is = ap (λ (b : Bool). record p { p_align = if b then n else p.p_align }) (ap (λ (t : ℕ). t == PT_LOAD) (eqb-true p.p_type PT_INTERP is))

    by_type : (b : Bool) → (p.p_type == PT_INTERP) ≡ b → segment_of_type PT_INTERP (map (with_align n) ps) ≡ segment_of_type PT_INTERP ps
        → (if b then Some (with_align n p) else segment_of_type PT_INTERP (map (with_align n) ps)) ≡ (if b then Some p else segment_of_type PT_INTERP ps)
    by_type true is same = ap Some (same_header is)
    by_type false is same = same

aligned_leaves : (n : ℕ) → LeavesSpare (with_load_align n)
aligned_leaves n = record {
  interpreter = find_aligned n;
  fixed = λ ps. ap ends_most (filter_mapped is_fixed_segment (with_align n) (λ p. refl) ps) ∙ ap (fold max 0) (map_mapped (λ p. end_of (memory_part p)) (with_align n) (λ p. refl) (filter is_fixed_segment ps));
  loads = λ ps. ap ends_most (filter_mapped is_loaded (with_align n) (λ p. refl) ps) ∙ ap (fold max 0) (map_mapped (λ p. end_of (memory_part p)) (with_align n) (λ p. refl) (filter is_loaded ps));
  some = any_mapped is_loaded (with_align n) (λ p. refl);
  counted = count_mapped (λ p. not (p.p_type == PT_GNU_STACK)) (with_align n) (λ p. refl);
  others = λ end table. filter_mapped (λ p. not (could_be_spare end table p)) (with_align n) (λ p. refl);
  stay = λ end table least. filter_mapped (λ p. not (spare_by end table least p)) (with_align n) (λ p. refl);
  filled = λ end table least source ps.
      ap (sum_by (filled_in source)) (filter_mapped (spare_by end table least) (with_align n) (λ p. refl) ps)
      ∙ sum_mapped (filled_in source) (with_align n) (λ p. refl) (filter (spare_by end table least) ps);
}

pub reclaimed_aligned : (n : ℕ) (f : SpareFacts) → segments_reclaimed (record f { segments = with_load_align n f.segments }) ≡ with_load_align n (segments_reclaimed f)
reclaimed_aligned n f = reclaimed_left (with_load_align n) (aligned_leaves n) f

-- ## Other flags of the stack

module _ (flags : ℕ → ℕ) where
  -- the stack's program header stays, and is the first of those that stay
  filter_stack : (keep : SegmentHeader → Bool) → ((p : SegmentHeader) (n : ℕ) → keep (record p { p_flags = n }) ≡ keep p) → ((p : SegmentHeader) → (p.p_type == PT_GNU_STACK) ≡ true → keep p ≡ true)
      → (ps : List SegmentHeader) → filter keep (with_stack_changed flags ps) ≡ with_stack_changed flags (filter keep ps)
  unfolding with_stack_changed
  filter_stack keep same stays [] = ap (λ (b : Bool). cond b (added_stack (flags STACK_FLAGS) ∷ []) []) (stays (added_stack (flags STACK_FLAGS)) refl)
  filter_stack keep same stays (p ∷ ps) = by_type (p.p_type == PT_GNU_STACK) refl (filter_stack keep same stays ps)
    where
      by_keep : (b : Bool) → (p.p_type == PT_GNU_STACK) ≡ false
          → cond b (p ∷ with_stack_changed flags (filter keep ps)) (with_stack_changed flags (filter keep ps)) ≡ with_stack_changed flags (cond b (p ∷ filter keep ps) (filter keep ps))
      by_keep true isnt = sym (ap (λ (c : Bool). if c then record p { p_flags = flags p.p_flags } ∷ filter keep ps else p ∷ with_stack_changed flags (filter keep ps)) isnt)
      by_keep false isnt = refl

      by_type : (b : Bool) → (p.p_type == PT_GNU_STACK) ≡ b → filter keep (with_stack_changed flags ps) ≡ with_stack_changed flags (filter keep ps)
          → filter keep (if b then record p { p_flags = flags p.p_flags } ∷ ps else p ∷ with_stack_changed flags ps) ≡ with_stack_changed flags (cond (keep p) (p ∷ filter keep ps) (filter keep ps))
      by_type true is rest =
          ap (λ (b : Bool). cond b (record p { p_flags = flags p.p_flags } ∷ filter keep ps) (filter keep ps)) (same p (flags p.p_flags) ∙ stays p is)
          ∙ sym (ap (λ (c : Bool). if c then record p { p_flags = flags p.p_flags } ∷ filter keep ps else p ∷ with_stack_changed flags (filter keep ps)) is)
          ∙ sym (ap (λ (b : Bool). with_stack_changed flags (cond b (p ∷ filter keep ps) (filter keep ps))) (stays p is))
      by_type false is rest = ap (λ (l : List SegmentHeader). cond (keep p) (p ∷ l) l) rest ∙ by_keep (keep p) is

  -- the stack's program header goes, with whichever flags
  filter_others : (keep : SegmentHeader → Bool) → ((p : SegmentHeader) → (p.p_type == PT_GNU_STACK) ≡ true → keep p ≡ false)
      → (ps : List SegmentHeader) → filter keep (with_stack_changed flags ps) ≡ filter keep ps
  unfolding with_stack_changed
  filter_others keep goes [] = ap (λ (b : Bool). cond b (added_stack (flags STACK_FLAGS) ∷ []) []) (goes (added_stack (flags STACK_FLAGS)) refl)
  filter_others keep goes (p ∷ ps) = by_type (p.p_type == PT_GNU_STACK) refl (filter_others keep goes ps)
    where
      by_type : (b : Bool) → (p.p_type == PT_GNU_STACK) ≡ b → filter keep (with_stack_changed flags ps) ≡ filter keep ps
          → filter keep (if b then record p { p_flags = flags p.p_flags } ∷ ps else p ∷ with_stack_changed flags ps) ≡ cond (keep p) (p ∷ filter keep ps) (filter keep ps)
      by_type true is rest =
          ap (λ (b : Bool). cond b (record p { p_flags = flags p.p_flags } ∷ filter keep ps) (filter keep ps)) (goes (record p { p_flags = flags p.p_flags }) is)
          ∙ sym (ap (λ (b : Bool). cond b (p ∷ filter keep ps) (filter keep ps)) (goes p is))
      by_type false is rest = ap (λ (l : List SegmentHeader). cond (keep p) (p ∷ l) l) rest

  -- the stack's program header isn't found as another one
  find_other : (test : SegmentHeader → Bool) → ((p : SegmentHeader) → (p.p_type == PT_GNU_STACK) ≡ true → test p ≡ false)
      → (ps : List SegmentHeader) → find test (with_stack_changed flags ps) ≡ find test ps
  unfolding with_stack_changed
  find_other test isnt [] = ap (λ (b : Bool). if b then Some (added_stack (flags STACK_FLAGS)) else None) (isnt (added_stack (flags STACK_FLAGS)) refl)
  find_other test isnt (p ∷ ps) = by_type (p.p_type == PT_GNU_STACK) refl (find_other test isnt ps)
    where
      by_type : (b : Bool) → (p.p_type == PT_GNU_STACK) ≡ b → find test (with_stack_changed flags ps) ≡ find test ps
          → find test (if b then record p { p_flags = flags p.p_flags } ∷ ps else p ∷ with_stack_changed flags ps) ≡ (if test p then Some p else find test ps)
      by_type true is rest =
          ap (λ (b : Bool). if b then Some (record p { p_flags = flags p.p_flags }) else find test ps) (isnt (record p { p_flags = flags p.p_flags }) is)
          ∙ sym (ap (λ (b : Bool). if b then Some p else find test ps) (isnt p is))
      by_type false is rest = ap (λ (o : Option SegmentHeader). if test p then Some p else o) rest

  any_other : (test : SegmentHeader → Bool) → ((p : SegmentHeader) → (p.p_type == PT_GNU_STACK) ≡ true → test p ≡ false)
      → (ps : List SegmentHeader) → list_any test (with_stack_changed flags ps) ≡ list_any test ps
  unfolding with_stack_changed
  any_other test isnt [] = ap (λ (b : Bool). b || false) (isnt (added_stack (flags STACK_FLAGS)) refl)
  any_other test isnt (p ∷ ps) = by_type (p.p_type == PT_GNU_STACK) refl (any_other test isnt ps)
    where
      by_type : (b : Bool) → (p.p_type == PT_GNU_STACK) ≡ b → list_any test (with_stack_changed flags ps) ≡ list_any test ps
          → list_any test (if b then record p { p_flags = flags p.p_flags } ∷ ps else p ∷ with_stack_changed flags ps) ≡ (test p || list_any test ps)
      by_type true is rest =
          ap (λ (b : Bool). b || list_any test ps) (isnt (record p { p_flags = flags p.p_flags }) is)
          ∙ sym (ap (λ (b : Bool). b || list_any test ps) (isnt p is))
      by_type false is rest = ap (λ (b : Bool). test p || b) rest

  -- a program header for the stack isn't counted among the others
  others_counted : (ps : List SegmentHeader) → count_others (with_stack_changed flags ps) ≡ count_others ps
  unfolding with_stack_changed
  others_counted [] = refl
  others_counted (p ∷ ps) = by_type (p.p_type == PT_GNU_STACK) refl (others_counted ps)
    where
      by_type : (b : Bool) → (p.p_type == PT_GNU_STACK) ≡ b → count_others (with_stack_changed flags ps) ≡ count_others ps
          → count_others (if b then record p { p_flags = flags p.p_flags } ∷ ps else p ∷ with_stack_changed flags ps) ≡ count_others (p ∷ ps)
      by_type true is rest =
          count_first (λ q. not (q.p_type == PT_GNU_STACK)) (record p { p_flags = flags p.p_flags }) ps ∙ sym (count_first (λ q. not (q.p_type == PT_GNU_STACK)) p ps)
      by_type false is rest =
          count_first (λ q. not (q.p_type == PT_GNU_STACK)) p (with_stack_changed flags ps) ∙ ap (λ (n : ℕ). one_if (not (p.p_type == PT_GNU_STACK)) + n) rest
          ∙ sym (count_first (λ q. not (q.p_type == PT_GNU_STACK)) p ps)

  -- a program header for the stack takes no memory where it is added
  end_behind : (n : ℕ) (ps : List SegmentHeader) → fold max n (map (λ p. end_of (memory_part p)) (with_stack_changed flags ps)) ≡ fold max n (map (λ p. end_of (memory_part p)) ps)
  unfolding with_stack_changed
  end_behind n [] = omega arith
  end_behind n (p ∷ ps) = by_type (p.p_type == PT_GNU_STACK) (end_behind (max n (end_of (memory_part p))) ps)
    where
      by_type : (b : Bool) → fold max (max n (end_of (memory_part p))) (map (λ q. end_of (memory_part q)) (with_stack_changed flags ps)) ≡ fold max (max n (end_of (memory_part p))) (map (λ q. end_of (memory_part q)) ps)
          → fold max n (map (λ q. end_of (memory_part q)) (if b then record p { p_flags = flags p.p_flags } ∷ ps else p ∷ with_stack_changed flags ps)) ≡ fold max (max n (end_of (memory_part p))) (map (λ q. end_of (memory_part q)) ps)
      by_type true rest = refl
      by_type false rest = rest

not_loaded : (p : SegmentHeader) → (p.p_type == PT_GNU_STACK) ≡ true → is_loaded p ≡ false
not_loaded p is = ap (λ (t : ℕ). t == PT_LOAD) (eqb-true p.p_type PT_GNU_STACK is)

not_interpreter : (p : SegmentHeader) → (p.p_type == PT_GNU_STACK) ≡ true → (p.p_type == PT_INTERP) ≡ false
not_interpreter p is = ap (λ (t : ℕ). t == PT_INTERP) (eqb-true p.p_type PT_GNU_STACK is)

stack_fixed : (p : SegmentHeader) → (p.p_type == PT_GNU_STACK) ≡ true → is_fixed_segment p ≡ true
stack_fixed p is = ap (λ (t : ℕ). not (is_one_of (PT_LOAD ∷ PT_DYNAMIC ∷ PT_INTERP ∷ PT_NOTE ∷ PT_GNU_PROPERTY ∷ []) t)) (eqb-true p.p_type PT_GNU_STACK is)

-- what isn't loaded isn't spare
isnt_spare : (end table : ℕ) (p : SegmentHeader) → is_loaded p ≡ false → could_be_spare end table p ≡ false
isnt_spare end table p isnt =
    ap (λ (b : Bool). b && p.p_filesz == p.p_memsz && not (p.p_filesz == 0) && not (p.p_offset == 0) && not (has_place table p) && nat_le end p.p_vaddr) isnt

stack_stays : (end table least : ℕ) (p : SegmentHeader) → (p.p_type == PT_GNU_STACK) ≡ true → spare_by end table least p ≡ false
stack_stays end table least p is = ap (λ (b : Bool). b && nat_le least p.p_vaddr) (isnt_spare end table p (not_loaded p is))

stack_leaves : (flags : ℕ → ℕ) → LeavesSpare (with_stack_changed flags)
stack_leaves flags = record {
  interpreter = find_other flags (λ p. p.p_type == PT_INTERP) not_interpreter;
  fixed = λ ps. ap ends_most (filter_stack flags is_fixed_segment (λ p n. refl) stack_fixed ps) ∙ end_behind flags 0 (filter is_fixed_segment ps);
  loads = λ ps. ap ends_most (filter_others flags is_loaded not_loaded ps);
  some = any_other flags is_loaded not_loaded;
  counted = others_counted flags;
  others = λ end table. filter_stack flags (λ p. not (could_be_spare end table p)) (λ p n. refl) (λ p is. ap not (isnt_spare end table p (not_loaded p is)));
  stay = λ end table least. filter_stack flags (λ p. not (spare_by end table least p)) (λ p n. refl) (λ p is. ap not (stack_stays end table least p is));
  filled = λ end table least source ps. ap (sum_by (filled_in source)) (filter_others flags (spare_by end table least) (stack_stays end table least) ps);
}

pub reclaimed_flagged : (flags : ℕ → ℕ) (f : SpareFacts) → segments_reclaimed (record f { segments = with_stack_changed flags f.segments }) ≡ with_stack_changed flags (segments_reclaimed f)
reclaimed_flagged flags f = reclaimed_left (with_stack_changed flags) (stack_leaves flags) f

-- ## Once more

gone_or_not : (b : Bool) → not b ≡ false → b ≡ true
gone_or_not true h = refl
gone_or_not false h = cc

first_holds : (b c : Bool) → (b && c) ≡ true → b ≡ true
first_holds true c h = refl
first_holds false c h = h

module _ (f : SpareFacts) where
  -- what goes could be spare, and is loaded
  could_be : (p : SegmentHeader) → not (is_spare f p) ≡ false → could_be_spare (fixed_end f) f.table p ≡ true
  could_be p gone = first_holds (could_be_spare (fixed_end f) f.table p) (nat_le (others_end f) p.p_vaddr) (gone_or_not (is_spare f p) gone)

  gone_loaded : (p : SegmentHeader) → not (is_spare f p) ≡ false → p.p_type ≡ PT_LOAD
  gone_loaded p gone = by_load (is_loaded p) refl
    where
      by_load : (b : Bool) → is_loaded p ≡ b → p.p_type ≡ PT_LOAD
      by_load true is = eqb-true p.p_type PT_LOAD is
      by_load false isnt = let no : true ≡ false = sym (could_be p gone) ∙ isnt_spare (fixed_end f) f.table p isnt in absurd (cc)

  -- a test that fails for loaded segments finds what it found before
  pub others_found : (test : SegmentHeader → Bool) → ((p : SegmentHeader) → p.p_type ≡ PT_LOAD → test p ≡ false) → find test (segments_reclaimed f) ≡ find test f.segments
  unfolding segments_reclaimed
  others_found test isnt = by_all (can_reclaim f)
    where
      by_all : (b : Bool) → find test (if b then without_spare f else f.segments) ≡ find test f.segments
      by_all true = find_filtered (λ p. not (is_spare f p)) test (λ p gone. isnt p (gone_loaded p gone)) f.segments
      by_all false = refl

  abbrev after_it : SpareFacts
  after_it = with_headers (without_spare f) f

  end_again : fixed_end after_it ≡ fixed_end f
  unfolding fixed_end
  end_again =
      ap (λ (o : Option SegmentHeader). fixed_sections_end (strings_number f.sections) o (ends_most (filter is_fixed_segment (without_spare f))) f.numbers f.sections)
      (find_filtered (λ p. not (is_spare f p)) (λ p. p.p_type == PT_INTERP) (λ p gone. ap (λ (t : ℕ). t == PT_INTERP) (gone_loaded p gone)) f.segments)
      ∙ ap (λ (ps : List SegmentHeader). fixed_sections_end (strings_number f.sections) (segment_of_type PT_INTERP f.segments) (ends_most ps) f.numbers f.sections)
      (filter_filtered (λ p. not (is_spare f p)) is_fixed_segment
      (λ p gone. ap (λ (t : ℕ). not (is_one_of (PT_LOAD ∷ PT_DYNAMIC ∷ PT_INTERP ∷ PT_NOTE ∷ PT_GNU_PROPERTY ∷ []) t)) (gone_loaded p gone)) f.segments)

  others_again : others_end after_it ≡ others_end f
  unfolding others_end
  others_again =
      ap (λ (n : ℕ). loads_end (filter (λ p. not (could_be_spare n f.table p)) (without_spare f))) end_again
      ∙ ap loads_end (filter_filtered (λ p. not (is_spare f p)) (λ p. not (could_be_spare (fixed_end f) f.table p)) (λ p gone. ap not (could_be p gone)) f.segments)

  stay_again : without_spare after_it ≡ without_spare f
  stay_again =
      ap (λ (n : ℕ). filter (λ p. not (spare_by n f.table (others_end after_it) p)) (without_spare f)) end_again
      ∙ ap (λ (n : ℕ). filter (λ p. not (spare_by (fixed_end f) f.table n p)) (without_spare f)) others_again
      ∙ filter_filtered (λ p. not (is_spare f p)) (λ p. not (is_spare f p)) (λ p gone. gone) f.segments

  one_or_other : (b : Bool) (xs ys : List SegmentHeader) → xs ≡ ys → (if b then xs else ys) ≡ ys
  one_or_other true xs ys same = same
  one_or_other false xs ys same = refl

  -- once spare segments have gone, no further one goes
  pub reclaimed_again : segments_reclaimed (record f { segments = segments_reclaimed f }) ≡ segments_reclaimed f
  unfolding segments_reclaimed
  reclaimed_again = by_all (can_reclaim f) refl
    where
      by_all : (b : Bool) → can_reclaim f ≡ b → segments_reclaimed (record f { segments = if b then without_spare f else f.segments }) ≡ (if b then without_spare f else f.segments)
      by_all true is = one_or_other (can_reclaim after_it) (without_spare after_it) (without_spare f) stay_again
      by_all false isnt = ap (λ (b : Bool). if b then without_spare f else f.segments) isnt

-- ## Room for the stack's program header

-- the table has no program header for the stack, and no room for one
abbrev pub lacks_room : List SegmentHeader → Bool
lacks_room ps = is_none (segment_of_type PT_GNU_STACK ps) && nat_le MOST_SEGMENTS (length ps)

-- without a program header for the stack, all are others
all_others : (ps : List SegmentHeader) → is_none (segment_of_type PT_GNU_STACK ps) ≡ true → count_others ps ≡ length ps
all_others [] none = refl
all_others (p ∷ ps) none = by_type (p.p_type == PT_GNU_STACK) refl none (all_others ps)
  where
    by_type : (b : Bool) → (p.p_type == PT_GNU_STACK) ≡ b → is_none (if b then Some p else segment_of_type PT_GNU_STACK ps) ≡ true
        → (is_none (segment_of_type PT_GNU_STACK ps) ≡ true → count_others ps ≡ length ps) → count_others (p ∷ ps) ≡ length (p ∷ ps)
    by_type true is none later = absurd (cc)
    by_type false isnt none later =
        let first : one_if (not (p.p_type == PT_GNU_STACK)) ≡ 1 = ap (λ (b : Bool). one_if (not b)) isnt in
        let rest : count_others ps ≡ length ps = later none in
        let all : count_others (p ∷ ps) ≡ one_if (not (p.p_type == PT_GNU_STACK)) + count_others ps = count_first (λ q. not (q.p_type == PT_GNU_STACK)) p ps in
        omega (arith, first, rest, all)

has_room : (ps : List SegmentHeader) → count_others ps < MOST_SEGMENTS → lacks_room ps ≡ false
has_room ps less = by_none (is_none (segment_of_type PT_GNU_STACK ps)) refl
  where
    by_none : (b : Bool) → is_none (segment_of_type PT_GNU_STACK ps) ≡ b → (b && nat_le MOST_SEGMENTS (length ps)) ≡ false
    by_none true none = let all : count_others ps ≡ length ps = all_others ps none in lt-leb MOST_SEGMENTS (length ps) (omega (arith, all, less))
    by_none false some = refl

last_holds : (a b c d : Bool) → (a && b && c && d) ≡ true → d ≡ true
last_holds true true true d h = h
last_holds false b c d h = absurd (cc)
last_holds true false c d h = absurd (cc)
last_holds true true false d h = absurd (cc)

-- where spare segments go, there is room for the stack's program header, before as after
pub room_left : (f : SpareFacts) → lacks_room (segments_reclaimed f) ≡ lacks_room f.segments
unfolding segments_reclaimed can_reclaim
room_left f = by_all (can_reclaim f) refl
  where
    by_all : (b : Bool) → can_reclaim f ≡ b → lacks_room (if b then without_spare f else f.segments) ≡ lacks_room f.segments
    by_all true is =
        let few : count_others f.segments < MOST_SEGMENTS =
        ltb-true (count_others f.segments) MOST_SEGMENTS (last_holds (list_any is_loaded (without_spare f)) (nat_le (loads_end (without_spare f)) (others_end f)) (filled_in_spare f == filled_in_sections f) (nat_lt (count_others f.segments) MOST_SEGMENTS) is) in
        let fewer : count_others (without_spare f) ≤ count_others f.segments = count_filtered (λ q. not (q.p_type == PT_GNU_STACK)) (λ p. not (is_spare f p)) f.segments in
        has_room (without_spare f) (omega (arith, few, fewer)) ∙ sym (has_room f.segments few)
    by_all false isnt = refl
