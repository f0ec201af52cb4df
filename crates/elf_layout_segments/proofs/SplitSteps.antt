-- Which program headers are split and which keep their ranges, told by positions and marks; the flags that sections need.
use Rattle.std.proofs.Common.{◌≡◌, ℕ, zero, suc, ◌+◌, ◌<◌, ◌≤◌, ◌*◌, max, Bool, true, false, not, ◌&&◌, ◌||◌, cond, List, [], ◌∷◌, ◌++◌, map, length, take, get_or, refl, sym, ap, ◌∙◌, subst, inl, inr, Option, Some, None, All, arith}
use Rattle.std.specs.Prelude.{count_by, filter, find, fold, if◌then◌else◌, nat_le, slice_index, ◌==◌, IsPermutation}
use Rattle.std.specs.List.{cons_option, list_any, slice_get}
use Rattle.std.proofs.lemmas.Bool.{cases_lt, eq-eqb, eqb-false, eqb-true, ne_eqb, true≢false}
use Rattle.std.proofs.lemmas.List.{append-nil, get_or-map, length-map, map-append, take_more}
use Rattle.std.proofs.lemmas.List.Elements.{All-filter, All-head, All-tail, filter-append, filter_agree, filter_map-append}
use Rattle.std.proofs.lemmas.List.Sorted.{list_any-IsPermutation}
use Rattle.std.proofs.lemmas.List.Sums.{fold-append, length-filter}
use Rattle.std.proofs.lemmas.Option.{get_or_from_slice_get, none-some, same_Some, slice_get-get_or, slice_get_past, slice_get_within}
use Rattle.elf_format.specs.Image.{ImageSection, counted}
use Rattle.elf_format.specs.Options.{first_there, is_one_of}
use Rattle.elf_format.specs.Placement.{file_part}
use Rattle.elf_format.specs.declared.range.Range.{Range}
use Rattle.elf_format.specs.Ranges.{end_of}
use Rattle.elf_format.specs.Records.{file_header_size, segment_header_size}
use Rattle.elf_format.specs.declared.constants.TheConstants.{PT_DYNAMIC, PT_INTERP, PT_LOAD, PT_PHDR, SHT_DYNAMIC}
use Rattle.elf_format.specs.declared.records.SegmentHeader.{SegmentHeader}
use Rattle.elf_image.specs.Edited.{IsEdited}
use Rattle.elf_layout_plan.specs.Added.{header_count, keeps_range, keeps_section_range, kept_end}
use Rattle.elf_layout_plan.specs.Anchors.{HeaderTable, Itself, Anchor, Notes, OneSection, is_loaded_section, is_moved, is_parted, is_split, anchor_of, anchor_or_itself, does_relro_stay, notes_under, section_or_table, section_under, is_just_over, is_over_notes, sharers}
use Rattle.elf_image.specs.Kept.{KeptSection, interpreter_number, is_numbered, kept_from, kept_of_type, kept_sections}
use Rattle.elf_layout_plan.specs.Memory.{Resized, SizedSection, sized_from, sized_sections}
use Rattle.elf_layout_plan.specs.Rounds.{added_flags, each_once, flags_for, sections_at}
use Rattle.elf_layout_plan.specs.Sizes.{new_sizes}
use Rattle.elf_layout_segments.specs.SplitCounts.{AreStarts, chosen_begins, chosen_starts, do_any_move, do_any_stay, end_with, is_chosen, is_marked, is_split_at, keeps_at, keeps_section, keeps_section_at, kept_end_over, with_flags, with_once}
use Rattle.elf_layout_segments.specs.declared.anchors.AnchorAt.{AnchorAt}
use Rattle.elf_layout_moves.specs.Inner.{AreMarks, IsResized}
use Rattle.elf_layout_segments.specs.AnchorPositions.{AreAnchors, AnchorPosition, anchor_model, anchor_position}
use Rattle.elf_layout_segments.specs.declared.sections.SectionAt.{SectionAt}
use Rattle.elf_layout_segments.specs.declared.starts.Begin.{Begin}
use Rattle.elf_layout_segments.specs.declared.starts.Starts.{Starts}
use Rattle.elf_layout_segments.specs.Asked.{is_some_in}
use Rattle.elf_layout_segments.specs.InOrder.{is_in}
use Rattle.elf_layout_segments.specs.Sections.{AreSized, begins_in, has_bytes_at, positions_in, indexed_sections}
use Rattle.elf_layout_segments.proofs.CountLaws.{any-picked, any_agree}
use Rattle.elf_layout_segments.proofs.AnchorSearchSteps.{IsReadAgain, again-seen, notes_begin}
use Rattle.elf_format.proofs.ForCallers.Lengths.{length-counted, slice_index-counted}
use Rattle.elf_image.proofs.ForCallers.KeptSections.{kept-at, length-kept}

-- ## Sections with their sizes

sized-is : (r : Resized) → IsResized r → IsReadAgain r → AreSized r
unfolding new_sizes
sized-is r h is =
    let numbered = is.edited.is_edit.sections.numbered in
    record { numbered = numbered; sized = ap length h.sizes ∙ length-map (kept_sections r.image) _ ∙ length-kept r.image numbered; notes = λ p over. notes_begin r p is over }

-- what is seen of an image with sizes has its sections with their sizes
pub seen-sized : (x r : Resized) → x ≡ r → IsResized x → IsEdited x.image → AreSized r
seen-sized x r e h edited = let P : Resized → Type 0 = AreSized in subst P e (sized-is x h (again-seen x x refl h edited))

sized_from-at : (ks : List KeptSection) (zs : List ℕ) (i : ℕ) (k : KeptSection) → length zs ≡ length ks → slice_get ks i ≡ Some k
    → slice_get (sized_from ks zs) i ≡ Some (record { kept = k; size = slice_index zs i })
sized_from-at [] zs i k e h = absurd (none-some k h)
sized_from-at (x ∷ ks) [] i k e h = absurd (omega (arith, e))
sized_from-at (x ∷ ks) (z ∷ zs) zero k e h = ap (λ y. Some (record { kept = y; size = z })) (same_Some x k h)
sized_from-at (x ∷ ks) (z ∷ zs) (suc i) k e h = sized_from-at ks zs i k (omega (arith, e)) h

length-sized_from : (ks : List KeptSection) (zs : List ℕ) → length zs ≡ length ks → length (sized_from ks zs) ≡ length ks
length-sized_from [] zs e = refl
length-sized_from (x ∷ ks) [] e = e
length-sized_from (x ∷ ks) (z ∷ zs) e = ap suc (length-sized_from ks zs (omega (arith, e)))

-- the section at a position
abbrev pub section_placed : Resized → ℕ → ImageSection → KeptSection
section_placed r i s = record { position = i; number = slice_index r.image.section_numbers i; section = s }

kept_there : (r : Resized) → AreSized r → (i : ℕ) (s : ImageSection) → slice_get r.image.sections i ≡ Some s → slice_get (kept_sections r.image) i ≡ Some (section_placed r i s)
kept_there r are i s h =
    let within : i < length r.image.sections = slice_get_within r.image.sections i s h in
    let many : length (kept_sections r.image) ≡ length r.image.sections = length-kept r.image are.numbered in
    slice_get-get_or (kept_sections r.image) i (section_placed r i s) (omega (arith, many, within))
    ∙ ap Some (kept-at r.image i (section_placed r i s) s are.numbered within ∙ ap (λ t. section_placed r i t) (get_or_from_slice_get r.image.sections i s s h))

pub sized-there : (r : Resized) → AreSized r → (i : ℕ) (s : ImageSection) → slice_get r.image.sections i ≡ Some s
    → slice_get (sized_sections r) i ≡ Some (record { kept = section_placed r i s; size = slice_index r.sizes i })
sized-there r are i s h =
    sized_from-at (kept_sections r.image) r.sizes i (section_placed r i s) (are.sized ∙ sym (length-kept r.image are.numbered)) (kept_there r are i s h)

pub length-sized : (r : Resized) → AreSized r → length (sized_sections r) ≡ length r.image.sections
length-sized r are =
    length-sized_from (kept_sections r.image) r.sizes (are.sized ∙ sym (length-kept r.image are.numbered)) ∙ length-kept r.image are.numbered

-- ## Flags, each once

abbrev without : ℕ → List ℕ → List ℕ
without n ns = filter (λ m. not (m == n)) ns

-- a number is among others whether or not another one is left out
one_of_without : (n y : ℕ) (ns : List ℕ) → (n == y) ≡ false → is_one_of (without n ns) y ≡ is_one_of ns y
one_of_without n y [] e = refl
one_of_without n y (m ∷ ns) e = by_test (m == n) (λ same. ap (λ k. k == y) (eqb-true m n same) ∙ e) (one_of_without n y ns e)
  where
    by_test : (a : Bool) → (a ≡ true → (m == y) ≡ false) → is_one_of (without n ns) y ≡ is_one_of ns y
        → is_one_of (cond (not a) (m ∷ without n ns) (without n ns)) y ≡ (m == y || is_one_of ns y)
    by_test true other rest = rest ∙ ap (λ b. b || is_one_of ns y) (sym (other refl))
    by_test false other rest = ap (λ b. m == y || b) rest

without-push : (n y : ℕ) (ns : List ℕ) → without n (ns ++ y ∷ []) ≡ without n ns ++ cond (not (y == n)) (y ∷ []) []
without-push n y ns = filter-append (λ m. not (m == n)) ns (y ∷ [])

each_once-push : (ns : List ℕ) (y : ℕ) → each_once (ns ++ y ∷ []) ≡ with_once (each_once ns) y
unfolding each_once
each_once-push [] y = refl
each_once-push (n ∷ ns) y =
    ap (λ l. n ∷ without n l) (each_once-push ns y)
    ∙ by_tests (each_once ns) (n == y) (is_one_of (each_once ns) y) (is_one_of (without n (each_once ns)) y) (one_of_without n y (each_once ns))
    (λ e. eq-eqb y n (sym (eqb-true n y e))) (λ e. ne_eqb y n (λ f. eqb-false n y e (sym f)))
  where
    by_tests : (l : List ℕ) (a b c : Bool) → (a ≡ false → c ≡ b) → (a ≡ true → (y == n) ≡ true) → (a ≡ false → (y == n) ≡ false)
        → (n ∷ without n (if b then l else l ++ y ∷ [])) ≡ (if a || c then n ∷ without n l else (n ∷ without n l) ++ y ∷ [])
    by_tests l true true c same is isnt = refl
    by_tests l true false c same is isnt =
        ap (λ m. n ∷ m) (without-push n y l ∙ ap (λ t. without n l ++ cond (not t) (y ∷ []) []) (is refl) ∙ append-nil (without n l))
    by_tests l false true true same is isnt = refl
    by_tests l false true false same is isnt = absurd (true≢false (sym (same refl)))
    by_tests l false false true same is isnt = absurd (true≢false (same refl))
    by_tests l false false false same is isnt =
        ap (λ m. n ∷ m) (without-push n y l ∙ ap (λ t. without n l ++ cond (not t) (y ∷ []) []) (isnt refl))

abbrev flags_needed : Bool → SizedSection → ℕ
flags_needed leave s = flags_for leave s.kept.section

-- one more section's flags
flags-push : (r : Resized) → AreSized r → (before : List ℕ) (position : ℕ) → added_flags r (before ++ position ∷ []) ≡ with_flags r.image.moves_dynamic r.image.sections (added_flags r before) position
unfolding with_flags
flags-push r are before position =
    ap (λ l. each_once (map (flags_needed r.image.moves_dynamic) l)) (filter_map-append (λ i. slice_get (sized_sections r) i) before (position ∷ []))
    ∙ by_section (slice_get r.image.sections position) refl
  where
    by_section : (o : Option ImageSection) → slice_get r.image.sections position ≡ o
        → each_once (map (flags_needed r.image.moves_dynamic) (sections_at r before ++ cons_option (slice_get (sized_sections r) position) []))
        ≡ (elim o as (λ _. List ℕ) [ Some s ↦ with_once (added_flags r before) (flags_for r.image.moves_dynamic s) | None ↦ added_flags r before ])
    by_section None e =
        ap (λ x. each_once (map (flags_needed r.image.moves_dynamic) (sections_at r before ++ cons_option x []))) (slice_get_past (sized_sections r) position (subst (λ n. n ≤ position) (sym (length-sized r are)) (past r.image.sections position e)))
        ∙ ap (λ l. each_once (map (flags_needed r.image.moves_dynamic) l)) (append-nil (sections_at r before))
      where
        past : (xs : List ImageSection) (i : ℕ) → slice_get xs i ≡ None → length xs ≤ i
        past xs i h = elim (cases_lt i (length xs)) [
          | inl within ↦ elim xs as (λ ys. slice_get ys i ≡ None → i < length ys → length ys ≤ i) [ [] ↦ λ g l. omega (arith, l) | x ∷ rest ↦ λ g l. absurd (none-some (get_or (x ∷ rest) i x) (sym g ∙ slice_get-get_or (x ∷ rest) i x l)) ] h within
          | inr over ↦ over
        ]
    by_section (Some s) e =
        ap (λ x. each_once (map (flags_needed r.image.moves_dynamic) (sections_at r before ++ cons_option x []))) (sized-there r are position s e)
        ∙ ap each_once (map-append (flags_needed r.image.moves_dynamic) (sections_at r before) (record { kept = section_placed r position s; size = slice_index r.sizes position } ∷ []))
        ∙ each_once-push (map (flags_needed r.image.moves_dynamic) (sections_at r before)) (flags_for r.image.moves_dynamic s)

pub flags-more : (r : Resized) → AreSized r → (moved : List ℕ) (i : ℕ) → i < length moved
    → added_flags r (take (i + 1) moved) ≡ with_flags r.image.moves_dynamic r.image.sections (added_flags r (take i moved)) (get_or moved i 0)
flags-more r are moved i h = ap (added_flags r) (take_more moved i 0 h) ∙ flags-push r are (take i moved) (get_or moved i 0)

pub flags-none : (r : Resized) → added_flags r [] ≡ []
unfolding each_once
flags-none r = refl

-- ## Where anchors stand

-- the section stands in the image, at its position
abbrev pub IsThere : Resized → KeptSection → Type 0
IsThere r s = slice_get (kept_sections r.image) s.position ≡ Some s

-- notes stand in the image, and are those that begin in the bytes of the program header
pub record AreNotesOf (r : Resized) (p : SegmentHeader) (ns : List KeptSection) : Type 0 where
  pub there : All (IsThere r) ns
  pub begin : map (λ (s : KeptSection). s.position) ns ≡ positions_in (indexed_sections r.image) (file_part p)

abbrev pub AreThere : Resized → SegmentHeader → Anchor → Type 0
AreThere r p Itself = Unit {0}
AreThere r p HeaderTable = Unit {0}
AreThere r p (OneSection s) = IsThere r s
AreThere r p (Notes ns) = AreNotesOf r p ns

all_there : (r : Resized) → AreSized r → All (IsThere r) (kept_sections r.image)
all_there r are i d h =
    let many : length (kept_sections r.image) ≡ length r.image.sections = length-kept r.image are.numbered in
    let at : get_or (kept_sections r.image) i d ≡ section_placed r i (get_or r.image.sections i d.section) = kept-at r.image i d d.section are.numbered (omega (arith, many, h)) in
    let position : (get_or (kept_sections r.image) i d).position ≡ i = ap (λ (s : KeptSection). s.position) at in
    ap (slice_get (kept_sections r.image)) position ∙ slice_get-get_or (kept_sections r.image) i d h

module _ (r : Resized) (p : SegmentHeader) where
  anchored_there : (test : KeptSection → Bool) (xs : List KeptSection) → All (IsThere r) xs → AreThere r p (anchor_or_itself (find test xs))
  anchored_there test [] all = tt
  anchored_there test (x ∷ xs) all = by_test (test x) (All-head (IsThere r) x xs all) (anchored_there test xs (All-tail (IsThere r) x xs all))
    where
      by_test : (a : Bool) → IsThere r x → AreThere r p (anchor_or_itself (find test xs)) → AreThere r p (anchor_or_itself (cond a (Some x) (find test xs)))
      by_test true here rest = here
      by_test false here rest = rest

  either_there : (a b : Option KeptSection) → AreThere r p (anchor_or_itself a) → AreThere r p (anchor_or_itself b) → AreThere r p (anchor_or_itself (first_there a b))
  either_there None b ha hb = hb
  either_there (Some s) b ha hb = ha

  or_table_there : (o : Option KeptSection) → AreThere r p (anchor_or_itself o) → AreThere r p (section_or_table o)
  or_table_there None h = tt
  or_table_there (Some s) h = h

  pub anchor-there : AreSized r → AreThere r p (anchor_of r.read r.image p)
  unfolding anchor_of
  anchor-there are =
      let xs : List KeptSection = kept_sections r.image in
      let all : All (IsThere r) xs = all_there r are in
      let over : List KeptSection = filter (is_just_over p) xs in
      let all_over : All (IsThere r) over = All-filter (is_just_over p) (IsThere r) xs all in
      by_type (p.p_type == PT_LOAD) (p.p_type == PT_PHDR) (p.p_type == PT_DYNAMIC) (p.p_type == PT_INTERP) (does_relro_stay r.image.moves_dynamic p.p_type) (p.p_filesz == 0) (is_over_notes r.read p) refl
      (kept_of_type SHT_DYNAMIC r.image) (find (is_numbered (interpreter_number r.read)) xs) (section_under r.image p) (notes_under r.read r.image p)
      (anchored_there (λ s. s.section.sh_type == SHT_DYNAMIC) xs all) (anchored_there (is_numbered (interpreter_number r.read)) xs all)
      (either_there (find (λ s. is_loaded_section s.section) over) (find (λ _. true) over) (anchored_there (λ s. is_loaded_section s.section) over all_over) (anchored_there (λ _. true) over all_over))
      (All-filter (λ s. is_one_of (map (λ n. n.number) (sharers r.read p)) s.number) (IsThere r) xs all) (are.notes p)
    where
      by_type : (loaded phdr dynamic interpreter stays empty over : Bool) → is_over_notes r.read p ≡ over → (a b c : Option KeptSection) (ns : List KeptSection) → AreThere r p (anchor_or_itself a) → AreThere r p (anchor_or_itself b)
          → AreThere r p (anchor_or_itself c) → All (IsThere r) ns → (is_over_notes r.read p ≡ true → map (λ (s : KeptSection). s.position) ns ≡ positions_in (indexed_sections r.image) (file_part p))
          → AreThere r p (if loaded then Itself else if phdr then section_or_table c else if dynamic then anchor_or_itself a else if interpreter then anchor_or_itself b else if stays then Itself else if empty then Itself else if over then Notes ns else anchor_or_itself c)
      by_type true phdr dynamic interpreter stays empty over is a b c ns ha hb hc hn begin = tt
      by_type false true dynamic interpreter stays empty over is a b c ns ha hb hc hn begin = or_table_there c hc
      by_type false false true interpreter stays empty over is a b c ns ha hb hc hn begin = ha
      by_type false false false true stays empty over is a b c ns ha hb hc hn begin = hb
      by_type false false false false true empty over is a b c ns ha hb hc hn begin = tt
      by_type false false false false false true over is a b c ns ha hb hc hn begin = tt
      by_type false false false false false false true is a b c ns ha hb hc hn begin = record { there = hn; begin = begin is }
      by_type false false false false false false false is a b c ns ha hb hc hn begin = hc

-- ## Marks

pub marked-is : (r : Resized) (moved : List ℕ) (marks : List Bool) → AreSized r → AreMarks r moved marks → (s : KeptSection) → IsThere r s → is_marked marks s.position ≡ is_moved moved s
marked-is r moved marks are h s there =
    let n : ℕ = length r.image.sections in
    let within : s.position < n = subst (λ m. s.position < m) (length-kept r.image are.numbered) (slice_get_within (kept_sections r.image) s.position s there) in
    let counts : length (counted n) ≡ n = length-counted n in
    ap (λ l. get_or l s.position false) h.is
    ∙ get_or-map (is_one_of moved) (counted n) s.position 0 false (omega (arith, counts, within))
    ∙ ap (is_one_of moved) (slice_index-counted n s.position within)

pub any_move-is : (r : Resized) (moved : List ℕ) (marks : List Bool) → AreSized r → AreMarks r moved marks → (ns : List KeptSection) → All (IsThere r) ns
    → do_any_move marks (map (λ (s : KeptSection). s.position) ns) ≡ list_any (is_moved moved) ns
any_move-is r moved marks are h [] all = refl
any_move-is r moved marks are h (s ∷ ns) all =
    ap (λ b. b || do_any_move marks (map (λ (s : KeptSection). s.position) ns)) (marked-is r moved marks are h s (All-head (IsThere r) s ns all))
    ∙ ap (λ b. is_moved moved s || b) (any_move-is r moved marks are h ns (All-tail (IsThere r) s ns all))

pub any_stay-is : (r : Resized) (moved : List ℕ) (marks : List Bool) → AreSized r → AreMarks r moved marks → (ns : List KeptSection) → All (IsThere r) ns
    → do_any_stay marks (map (λ (s : KeptSection). s.position) ns) ≡ list_any (λ s. not (is_moved moved s)) ns
any_stay-is r moved marks are h [] all = refl
any_stay-is r moved marks are h (s ∷ ns) all =
    ap (λ b. not b || do_any_stay marks (map (λ (s : KeptSection). s.position) ns)) (marked-is r moved marks are h s (All-head (IsThere r) s ns all))
    ∙ ap (λ b. not (is_moved moved s) || b) (any_stay-is r moved marks are h ns (All-tail (IsThere r) s ns all))

-- ## Splits

-- one of the sections that move begins in a range, or of those that stay
pub some_started : (moving : Bool) (marks : List Bool) (sections : List SectionAt) (part : Range) (starts : List ℕ) → IsPermutation (chosen_starts moving marks sections) starts
    → list_any (is_in part) starts ≡ list_any (is_chosen moving marks) (positions_in sections part)
some_started moving marks sections part starts same =
    let chosen : SectionAt → Bool = λ s. is_chosen moving marks s.position in
    sym (list_any-IsPermutation (is_in part) (chosen_starts moving marks sections) starts same)
    ∙ any-picked (λ s. has_bytes_at s && chosen s) (λ (s : SectionAt). s.sh_offset) (is_in part) sections
    ∙ any_agree (λ s. (has_bytes_at s && chosen s) && is_in part s.sh_offset) (λ s. (has_bytes_at s && is_in part s.sh_offset) && chosen s)
    (λ s. last_two (has_bytes_at s) (chosen s) (is_in part s.sh_offset)) sections
    ∙ sym (any-picked (begins_in part) (λ (s : SectionAt). s.position) (is_chosen moving marks) sections)
  where
    last_two : (a b c : Bool) → ((a && b) && c) ≡ ((a && c) && b)
    last_two false b c = refl
    last_two true true true = refl
    last_two true true false = refl
    last_two true false true = refl
    last_two true false false = refl

-- a walk over those that begin in a range, told by what begins and by positions
module _ {A : Type 0} (marks : List Bool) (moving : Bool) (part : Range) (step : A → ℕ → A) where
  abbrev pub step_begin : A → Begin → A
  step_begin a b = if is_in part b.start then step a b.position else a

  abbrev pub step_chosen : A → ℕ → A
  step_chosen a position = if is_chosen moving marks position then step a position else a

  pub begins_as_positions : (xs : List SectionAt) (a : A) → fold step_begin a (chosen_begins moving marks xs) ≡ fold step_chosen a (positions_in xs part)
  begins_as_positions [] a = refl
  begins_as_positions (x ∷ xs) a =
      by_tests (has_bytes_at x) (is_chosen moving marks x.position) (is_in part x.sh_offset) refl refl (λ b. begins_as_positions xs b)
    where
      by_tests : (b c n : Bool) → is_chosen moving marks x.position ≡ c → is_in part x.sh_offset ≡ n
          → ((u : A) → fold step_begin u (chosen_begins moving marks xs) ≡ fold step_chosen u (positions_in xs part))
          → fold step_begin a
          (map (λ (s : SectionAt). let g : Begin = record { start = s.sh_offset; position = s.position } in g) (cond (b && c) (x ∷ filter (λ s. has_bytes_at s && is_chosen moving marks s.position) xs) (filter (λ s. has_bytes_at s && is_chosen moving marks s.position) xs)))
          ≡ fold step_chosen a (map (λ (s : SectionAt). s.position) (cond (b && n) (x ∷ filter (begins_in part) xs) (filter (begins_in part) xs)))
      by_tests false c n ce ne rest = rest a
      by_tests true true true ce ne rest =
          ap (λ (b : Bool). fold step_begin (if b then step a x.position else a) (chosen_begins moving marks xs)) ne
          ∙ rest (step a x.position)
          ∙ sym (ap (λ (b : Bool). fold step_chosen (if b then step a x.position else a) (positions_in xs part)) ce)
      by_tests true true false ce ne rest =
          ap (λ (b : Bool). fold step_begin (if b then step a x.position else a) (chosen_begins moving marks xs)) ne ∙ rest a
      by_tests true false true ce ne rest =
          rest a ∙ sym (ap (λ (b : Bool). fold step_chosen (if b then step a x.position else a) (positions_in xs part)) ce)
      by_tests true false false ce ne rest = rest a

module _ (r : Resized) (moved : List ℕ) (marks : List Bool) (are : AreSized r) (h : AreMarks r moved marks) (starts : Starts) (begin : AreStarts (indexed_sections r.image) marks starts) where
  pub notes_move : (p : SegmentHeader) (ns : List KeptSection) → AreNotesOf r p ns → is_some_in starts.moving (file_part p) ≡ list_any (is_moved moved) ns
  notes_move p ns these =
      some_started true marks (indexed_sections r.image) (file_part p) starts.moving.numbers.items begin.moving.same
      ∙ ap (do_any_move marks) (sym these.begin) ∙ any_move-is r moved marks are h ns these.there

  notes_stay : (p : SegmentHeader) (ns : List KeptSection) → AreNotesOf r p ns → is_some_in starts.staying (file_part p) ≡ list_any (λ s. not (is_moved moved s)) ns
  notes_stay p ns these =
      some_started false marks (indexed_sections r.image) (file_part p) starts.staying.numbers.items begin.staying.same
      ∙ ap (do_any_stay marks) (sym these.begin) ∙ any_stay-is r moved marks are h ns these.there

  parted-is : (p : SegmentHeader) (l : Anchor) → AreThere r p l → is_split_at starts (anchor_position p l) ≡ is_parted moved l
  parted-is p Itself there = refl
  parted-is p HeaderTable there = refl
  parted-is p (OneSection s) there = refl
  parted-is p (Notes ns) there =
      ap (λ b. b && is_some_in starts.staying (file_part p)) (notes_move p ns there) ∙ ap (λ b. list_any (is_moved moved) ns && b) (notes_stay p ns there)

pub count_by-map : {A B : Type 0} → (f : A → B) (q : B → Bool) (xs : List A) → length (filter q (map f xs)) ≡ length (filter (λ x. q (f x)) xs)
count_by-map f q [] = refl
count_by-map {A} f q (x ∷ xs) = by_test (q (f x)) (count_by-map f q xs)
  where
    by_test : (a : Bool) → length (filter q (map f xs)) ≡ length (filter (λ y. q (f y)) xs)
        → length (cond a (f x ∷ filter q (map f xs)) (filter q (map f xs))) ≡ length (cond a (x ∷ filter (λ y. q (f y)) xs) (filter (λ y. q (f y)) xs))
    by_test true e = ap suc e
    by_test false e = e

-- as many program headers are split as anchors tell
pub splits-are : (r : Resized) (moved : List ℕ) (marks : List Bool) → AreSized r → AreMarks r moved marks → (starts : Starts) → AreStarts (indexed_sections r.image) marks starts
    → (ps : List SegmentHeader) → count_by (is_split_at starts) (map (λ p. anchor_position p (anchor_of r.read r.image p)) ps) ≡ count_by (is_split r moved) ps
unfolding is_split
splits-are r moved marks are h starts begin ps =
    sym (length-filter (is_split_at starts) (map (λ p. anchor_position p (anchor_of r.read r.image p)) ps))
    ∙ count_by-map (λ p. anchor_position p (anchor_of r.read r.image p)) (is_split_at starts) ps
    ∙ ap length (filter_agree (λ p. is_split_at starts (anchor_position p (anchor_of r.read r.image p))) (λ p. is_parted moved (anchor_of r.read r.image p)) (λ p. parted-is r moved marks are h starts begin p (anchor_of r.read r.image p) (anchor-there r p are)) ps)
    ∙ length-filter (λ p. is_parted moved (anchor_of r.read r.image p)) ps

-- ## Ranges that are kept

module _ (f : ℕ) where
  abbrev has_size : ℕ → SizedSection → Bool
  has_size v x = x.kept.position == v && x.size == f

  none_has_size : (k v : ℕ) (ns : List ℕ) (ss : List ImageSection) (zs : List ℕ) → v < k → list_any (has_size v) (sized_from (kept_from k ns ss) zs) ≡ false
  none_has_size k v [] ss zs h = refl
  none_has_size k v (n ∷ ns) [] zs h = refl
  none_has_size k v (n ∷ ns) (s ∷ ss) [] h = refl
  none_has_size k v (n ∷ ns) (s ∷ ss) (z ∷ zs) h =
      ap (λ b. b && z == f || list_any (has_size v) (sized_from (kept_from (k + 1) ns ss) zs)) (ne_eqb k v (λ e. absurd (omega (arith, e, h))))
      ∙ none_has_size (k + 1) v ns ss zs (omega (arith, h))

  one_has_size : (k m : ℕ) (ns : List ℕ) (ss : List ImageSection) (zs : List ℕ) → length ns ≡ length ss → length zs ≡ length ss → m < length ss
      → list_any (has_size (k + m)) (sized_from (kept_from k ns ss) zs) ≡ (slice_index zs m == f)
  one_has_size k m [] [] zs e g h = absurd (omega (arith, h))
  one_has_size k m [] (s ∷ ss) zs e g h = absurd (omega (arith, e))
  one_has_size k m (n ∷ ns) [] zs e g h = absurd (omega (arith, e))
  one_has_size k m (n ∷ ns) (s ∷ ss) [] e g h = absurd (omega (arith, g))
  one_has_size k zero (n ∷ ns) (s ∷ ss) (z ∷ zs) e g h =
      ap (λ b. b && z == f || list_any (has_size (k + 0)) (sized_from (kept_from (k + 1) ns ss) zs)) (eq-eqb k (k + 0) (omega arith))
      ∙ ap (λ b. z == f || b) (none_has_size (k + 1) (k + 0) ns ss zs (omega arith)) ∙ or_false (z == f)
    where
      or_false : (b : Bool) → (b || false) ≡ b
      or_false true = refl
      or_false false = refl
  one_has_size k (suc m) (n ∷ ns) (s ∷ ss) (z ∷ zs) e g h =
      let move : k + suc m ≡ k + 1 + m = omega arith in
      ap (λ b. b && z == f || list_any (has_size (k + suc m)) (sized_from (kept_from (k + 1) ns ss) zs)) (ne_eqb k (k + suc m) (λ x. absurd (omega (arith, x))))
      ∙ ap (λ v. list_any (has_size v) (sized_from (kept_from (k + 1) ns ss) zs)) move
      ∙ one_has_size (k + 1) m ns ss zs (omega (arith, e)) (omega (arith, g)) (omega (arith, h))

and_regroup : (a b c d e : Bool) → (a && (b && c && d && e)) ≡ (a && b && c && d && e)
and_regroup true b c d e = refl
and_regroup false b c d e = refl

-- an anchor tells whether the program header keeps its range
module _ (r : Resized) (moved : List ℕ) (marks : List Bool) (starts : Starts) (headers : ℕ) (are : AreSized r) (h : AreMarks r moved marks)
    (begin : AreStarts (indexed_sections r.image) marks starts) (count : headers ≡ header_count r moved) (p : SegmentHeader) where
  section_keeps : (s : KeptSection) → IsThere r s → (not (is_marked marks s.position) && keeps_section_at r p s.position) ≡ keeps_section_range r moved p s
  unfolding keeps_section_at
  section_keeps s there =
      let n : ℕ = length r.image.sections in
      let within : s.position < n = subst (λ m. s.position < m) (length-kept r.image are.numbered) (slice_get_within (kept_sections r.image) s.position s there) in
      let at : get_or (kept_sections r.image) s.position s ≡ s = get_or_from_slice_get (kept_sections r.image) s.position s s there in
      let same : s ≡ section_placed r s.position (get_or r.image.sections s.position s.section) = sym at ∙ kept-at r.image s.position s s.section are.numbered within in
      let there_too : slice_get r.image.sections s.position ≡ Some s.section =
      slice_get-get_or r.image.sections s.position s.section within ∙ ap Some (sym (ap (λ (k : KeptSection). k.section) same)) in
      let sized : slice_get r.sizes s.position ≡ Some (slice_index r.sizes s.position) = slice_get-get_or r.sizes s.position 0 (subst (λ m. s.position < m) (sym are.sized) within) in
      let zero_add : s.position ≡ 0 + s.position = omega arith in
      ap (λ b. not b && keeps_section_at r p s.position) (marked-is r moved marks are h s there)
      ∙ ap (λ (o : Option ImageSection). not (is_moved moved s) && (elim o as (λ _. Bool) [ Some x ↦ elim (slice_get r.sizes s.position) as (λ _. Bool) [ Some size ↦ keeps_section x size p | None ↦ false ] | None ↦ false ])) there_too
      ∙ ap (λ (o : Option ℕ). not (is_moved moved s) && (elim o as (λ _. Bool) [ Some size ↦ keeps_section s.section size p | None ↦ false ])) sized
      ∙ and_regroup (not (is_moved moved s)) (is_loaded_section s.section) (s.section.sh_offset == p.p_offset) (s.section.sh_addr == p.p_vaddr) (slice_index r.sizes s.position == p.p_filesz)
      ∙ ap (λ b. not (is_moved moved s) && is_loaded_section s.section && s.section.sh_offset == p.p_offset && s.section.sh_addr == p.p_vaddr && b)
      (sym (ap (λ v. list_any (has_size p.p_filesz v) (sized_sections r)) zero_add
      ∙ one_has_size p.p_filesz 0 s.position r.image.section_numbers r.image.sections r.sizes are.numbered are.sized within))

  anchor_keeps : (l : Anchor) → AreThere r p l → keeps_at r marks starts headers p (anchor_position p l) ≡ (elim l as (λ _. Bool) [
    | Itself ↦ true
    | HeaderTable ↦ p.p_filesz == header_count r moved * segment_header_size r.image.form && p.p_memsz == p.p_filesz
    | OneSection s ↦ keeps_section_range r moved p s
    | Notes notes ↦ not (list_any (is_moved moved) notes)
  ])
  unfolding keeps_at
  anchor_keeps Itself there = refl
  anchor_keeps HeaderTable there = ap (λ n. p.p_filesz == n * segment_header_size r.image.form && p.p_memsz == p.p_filesz) count
  anchor_keeps (OneSection s) there = section_keeps s there
  anchor_keeps (Notes ns) there = ap not (notes_move r moved marks are h starts begin p ns there)

  pub keeps-is : keeps_at r marks starts headers p (anchor_position p (anchor_of r.read r.image p)) ≡ keeps_range r moved p
  keeps-is = anchor_keeps (anchor_of r.read r.image p) (anchor-there r p are)

-- ## The end of what stays

kept_end-push : (r : Resized) (moved : List ℕ) (before : List SegmentHeader) (p : SegmentHeader)
    → kept_end_over r moved (before ++ p ∷ []) ≡ end_with (keeps_range r moved p) (end_of (file_part p)) (length r.image.source) (kept_end_over r moved before)
unfolding kept_end_over end_with
kept_end-push r moved before p =
    let first : ℕ = file_header_size r.image.form in
    let fits : ℕ → Bool = λ end. nat_le end (length r.image.source) in
    let end : SegmentHeader → ℕ = λ q. end_of (file_part q) in
    let kept : List SegmentHeader = filter (keeps_range r moved) before in
    ap (λ l. fold max first (filter fits (map end l))) (filter-append (keeps_range r moved) before (p ∷ []))
    ∙ by_tests first fits end kept (keeps_range r moved p) (fits (end p)) refl
  where
    by_tests : (first : ℕ) (fits : ℕ → Bool) (end : SegmentHeader → ℕ) (kept : List SegmentHeader) (a b : Bool) → fits (end p) ≡ b
        → fold max first (filter fits (map end (kept ++ cond a (p ∷ []) []))) ≡ (if a && b then max (fold max first (filter fits (map end kept))) (end p) else fold max first (filter fits (map end kept)))
    by_tests first fits end kept false b e = ap (λ l. fold max first (filter fits (map end l))) (append-nil kept)
    by_tests first fits end kept true b e =
        ap (λ l. fold max first (filter fits l)) (map-append end kept (p ∷ []))
        ∙ ap (fold max first) (filter-append fits (map end kept) (end p ∷ []))
        ∙ fold-append max first (filter fits (map end kept)) (cond (fits (end p)) (end p ∷ []) [])
        ∙ ap (λ t. fold max (fold max first (filter fits (map end kept))) (cond t (end p ∷ []) [])) e
        ∙ last b (fold max first (filter fits (map end kept))) (end p)
      where
        last : (b : Bool) (sum e : ℕ) → fold max sum (cond b (e ∷ []) []) ≡ (if b then max sum e else sum)
        last true sum e = refl
        last false sum e = refl

pub kept_end-more : (r : Resized) (moved : List ℕ) (i : ℕ) (p : SegmentHeader) → slice_get r.image.segments i ≡ Some p
    → kept_end_over r moved (take (i + 1) r.image.segments)
    ≡ end_with (keeps_range r moved p) (end_of (file_part p)) (length r.image.source) (kept_end_over r moved (take i r.image.segments))
kept_end-more r moved i p at =
    ap (kept_end_over r moved) (take_more r.image.segments i p (slice_get_within r.image.segments i p at) ∙ ap (λ q. take i r.image.segments ++ q ∷ []) (get_or_from_slice_get r.image.segments i p p at)) ∙ kept_end-push r moved (take i r.image.segments) p

pub kept_end-all : (r : Resized) (moved : List ℕ) → kept_end r moved ≡ kept_end_over r moved r.image.segments
unfolding kept_end kept_end_over
kept_end-all r moved = refl

pub kept_end-none : (r : Resized) (moved : List ℕ) → kept_end_over r moved [] ≡ file_header_size r.image.form
unfolding kept_end_over
kept_end-none r moved = refl

-- as many anchors as program headers
pub anchors-length : (r : Resized) (anchors : List AnchorAt) → AreAnchors r anchors → length anchors ≡ length r.image.segments
anchors-length r anchors are = sym (length-map anchors anchor_model) ∙ ap length are ∙ length-map r.image.segments (λ q. anchor_position q (anchor_of r.read r.image q))

-- the anchor at a place is that of the program header there
pub anchor-at : (r : Resized) (anchors : List AnchorAt) → AreAnchors r anchors → (i : ℕ) (l : AnchorAt) (p : SegmentHeader) → l ≡ get_or anchors i l
    → slice_get r.image.segments i ≡ Some p → anchor_model l ≡ anchor_position p (anchor_of r.read r.image p)
anchor-at r anchors are i l p is at =
    let lead : SegmentHeader → AnchorPosition = λ q. anchor_position q (anchor_of r.read r.image q) in
    let within : i < length r.image.segments = slice_get_within r.image.segments i p at in
    ap anchor_model is
    ∙ sym (get_or-map anchor_model anchors i l (anchor_model l) (omega (arith, anchors-length r anchors are, within)))
    ∙ ap (λ ts. get_or ts i (anchor_model l)) are
    ∙ get_or-map lead r.image.segments i p (anchor_model l) within
    ∙ ap lead (get_or_from_slice_get r.image.segments i p p at)
