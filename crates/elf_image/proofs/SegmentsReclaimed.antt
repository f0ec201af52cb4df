-- Spare segments that go leave an image that was read and edited.
use Rattle.std.proofs.Common.{◌≡◌, ℕ, ◌≤◌, Bool, true, false, cond, List, [], ◌∷◌, ◌++◌, filter, refl, sym, ap, ◌∙◌, inl, inr, subst, Option, Some, None, arith}
use Rattle.std.specs.Prelude.{◌&&◌, ◌||◌, ◌==◌, ◌≢◌, if◌then◌else◌, is_some, nat_le, nat_lt, not}
use Rattle.std.specs.List.{list_any}
use Rattle.std.specs.Option.{option_map, option_to_list}
use Rattle.std.proofs.lemmas.Bool.{and_parts, eqb-true, false≢true, leb-true, ne_eqb, true≢false}
use Rattle.std.proofs.lemmas.List.Elements.{filter-append}
use Rattle.elf_format.specs.declared.constants.TheConstants.{PT_INTERP, PT_LOAD}
use Rattle.elf_format.specs.declared.header.Header.{Header}
use Rattle.elf_format.specs.declared.records.SegmentHeader.{SegmentHeader}
use Rattle.elf_format.specs.File.{is_loaded, segment_of_type}
use Rattle.elf_format.specs.Image.{Image}
use Rattle.elf_image.specs.Complete.{IsComplete}
use Rattle.elf_image.specs.Edited.{AreKept, AreSegments, CanGo, IsEdited, IsReclaimed, kept_segment}
use Rattle.elf_image.specs.Leave.{spare_facts, with_dynamic_move}
use Rattle.elf_image_headers.specs.Segments.{added_stack, loads_end}
use Rattle.elf_image_headers.specs.declared.segment.TheConstants.{MOST_SEGMENTS}
use Rattle.elf_image_headers.specs.Spare.{SpareFacts, can_reclaim, could_be_spare, count_others, filled_in_sections, filled_in_spare, fixed_end, has_place, is_spare, others_end, segments_reclaimed, without_spare}
use Rattle.elf_image.proofs.SegmentsKept.{gone_kept}
use Rattle.elf_image.proofs.Unclaimed.{end_filtered, end_less, more_went}

-- ## A spare segment

-- what a spare one is
record Spare (f : SpareFacts) (p : SegmentHeader) : Type 0 where
  loaded : p.p_type ≡ PT_LOAD
  no_header : p.p_offset ≢ 0
  no_table : has_place f.table p ≡ false
  behind : others_end f ≤ p.p_vaddr

not_true : (b : Bool) → not b ≡ true → b ≡ false
not_true true h = sym h
not_true false h = refl

not_false : (b : Bool) → not b ≡ false → b ≡ true
not_false true h = refl
not_false false h = absurd (true≢false h)

spare_is : (f : SpareFacts) (p : SegmentHeader) → is_spare f p ≡ true → Spare f p
spare_is f p is =
    let all = and_parts (could_be_spare (fixed_end f) f.table p) (nat_le (others_end f) p.p_vaddr) is in
    let fifth = and_parts (is_loaded p && p.p_filesz == p.p_memsz && not (p.p_filesz == 0) && not (p.p_offset == 0) && not (has_place f.table p)) (nat_le (fixed_end f) p.p_vaddr) all.0 in
    let fourth = and_parts (is_loaded p && p.p_filesz == p.p_memsz && not (p.p_filesz == 0) && not (p.p_offset == 0)) (not (has_place f.table p)) fifth.0 in
    let third = and_parts (is_loaded p && p.p_filesz == p.p_memsz && not (p.p_filesz == 0)) (not (p.p_offset == 0)) fourth.0 in
    let second = and_parts (is_loaded p && p.p_filesz == p.p_memsz) (not (p.p_filesz == 0)) third.0 in
    let first = and_parts (is_loaded p) (p.p_filesz == p.p_memsz) second.0 in
    record {
      loaded = eqb-true p.p_type PT_LOAD first.0;
      no_header = λ zero. true≢false (sym (ap (λ (n : ℕ). n == 0) zero) ∙ not_true (p.p_offset == 0) third.1);
      no_table = not_true (has_place f.table p) fourth.1;
      behind = leb-true (others_end f) p.p_vaddr all.1;
    }

-- ## What is left of lists

module _ (f : SpareFacts) where
  abbrev stays : SegmentHeader → Bool
  stays p = not (is_spare f p)

  -- what isn't loaded stays
  other_stays : (p : SegmentHeader) → p.p_type ≢ PT_LOAD → stays p ≡ true
  other_stays p other = by_spare (is_spare f p) refl
    where
      by_spare : (b : Bool) → is_spare f p ≡ b → not b ≡ true
      by_spare true is = absurd (other (spare_is f p is).loaded)
      by_spare false is = refl

  -- a program header, as it is kept, is as spare as it was
  alike : (size : Option ℕ) (old p : SegmentHeader) → p ≡ kept_segment size p.p_flags old → stays p ≡ stays old
  alike size old p is = ap stays is

  kept_by : (size : Option ℕ) (old p : SegmentHeader) (olds ps : List SegmentHeader) (b c : Bool) → b ≡ c → p ≡ kept_segment size p.p_flags old → AreKept size olds ps
      → AreKept size (cond c (old ∷ olds) olds) (cond b (p ∷ ps) ps)
  kept_by size old p olds ps true true same is rest = inl (is, rest)
  kept_by size old p olds ps true false same is rest = absurd (true≢false same)
  kept_by size old p olds ps false true same is rest = absurd (false≢true same)
  kept_by size old p olds ps false false same is rest = rest

  stays_first : (old : SegmentHeader) (olds : List SegmentHeader) → CanGo old → filter stays (old ∷ olds) ≡ old ∷ filter stays olds
  stays_first old olds go = ap (λ (b : Bool). cond b (old ∷ filter stays olds) (filter stays olds)) (other_stays old go.0)

  kept_left : (size : Option ℕ) (olds ps : List SegmentHeader) → AreKept size olds ps → AreKept size (filter stays olds) (filter stays ps)
  kept_left size [] [] h = tt
  kept_left size [] (p ∷ ps) h = absurd h
  kept_left size (old ∷ olds) [] h =
      subst (λ (l : List SegmentHeader). AreKept size l []) (sym (stays_first old olds h.0)) (gone_kept size old (filter stays olds) [] h.0 (kept_left size olds [] h.1))
  kept_left size (old ∷ olds) (p ∷ ps) h = elim h [
    | inl same ↦ kept_by size old p (filter stays olds) (filter stays ps) (stays p) (stays old) (alike size old p same.0) same.0 (kept_left size olds ps same.1)
    | inr gone ↦
        subst (λ (l : List SegmentHeader). AreKept size l (filter stays (p ∷ ps))) (sym (stays_first old olds gone.0))
        (gone_kept size old (filter stays olds) (filter stays (p ∷ ps)) gone.0 (kept_left size olds (p ∷ ps) gone.1))
  ]

  -- the program header for the stack that was added stays
  added_left : (o : Option ℕ) → filter stays (option_to_list (option_map added_stack o)) ≡ option_to_list (option_map added_stack o)
  added_left None = refl
  added_left (Some flags) = ap (λ (b : Bool). cond b (added_stack flags ∷ []) []) (other_stays (added_stack flags) (λ e. absurd (omega (arith, e))))

-- ## Some loaded segment

none_added : (o : Option ℕ) → list_any is_loaded (option_to_list (option_map added_stack o)) ≡ false
none_added None = refl
none_added (Some flags) = refl

-- one that is there, but for the one that was added, was there unclaimed
some_unclaimed : (size : Option ℕ) (olds ps more : List SegmentHeader) → AreKept size olds ps → list_any is_loaded more ≡ false → list_any is_loaded (ps ++ more) ≡ true
    → list_any is_loaded olds ≡ true
some_unclaimed size [] [] more h none some = absurd (false≢true (sym none ∙ some))
some_unclaimed size [] (p ∷ ps) more h none some = absurd h
some_unclaimed size (old ∷ olds) [] more h none some = absurd (false≢true (sym none ∙ some))
some_unclaimed size (old ∷ olds) (p ∷ ps) more h none some = elim h [
  | inl same ↦ by_first (is_loaded p) (is_loaded old) (ap is_loaded same.0) some (λ s. some_unclaimed size olds ps more same.1 none s)
  | inr gone ↦ behind (is_loaded old) (some_unclaimed size olds (p ∷ ps) more gone.1 none some)
]
  where
    by_first : (b c : Bool) → b ≡ c → (b || list_any is_loaded (ps ++ more)) ≡ true → (list_any is_loaded (ps ++ more) ≡ true → list_any is_loaded olds ≡ true)
        → (c || list_any is_loaded olds) ≡ true
    by_first b true same one rest = refl
    by_first true false same one rest = absurd (true≢false same)
    by_first false false same one rest = rest one

    behind : (c : Bool) → list_any is_loaded olds ≡ true → (c || list_any is_loaded olds) ≡ true
    behind true one = refl
    behind false one = one

-- ## All program headers

module _ (f : SpareFacts) where
  -- what can be taken away
  can_be : can_reclaim f ≡ true → (list_any is_loaded (without_spare f) ≡ true) × (loads_end (without_spare f) ≤ others_end f)
  unfolding can_reclaim
  can_be is =
      let room = and_parts (list_any is_loaded (without_spare f) && nat_le (loads_end (without_spare f)) (others_end f) && filled_in_spare f == filled_in_sections f)
      (nat_lt (count_others f.segments) MOST_SEGMENTS) is in
      let all = and_parts (list_any is_loaded (without_spare f) && nat_le (loads_end (without_spare f)) (others_end f)) (filled_in_spare f == filled_in_sections f) room.0 in
      let both = and_parts (list_any is_loaded (without_spare f)) (nat_le (loads_end (without_spare f)) (others_end f)) all.0 in
      (both.0, leb-true (loads_end (without_spare f)) (others_end f) both.1)

  taken_away : (size : Option ℕ) (read : List SegmentHeader) → can_reclaim f ≡ true → AreSegments f.table size read f.segments → AreSegments f.table size read (without_spare f)
  taken_away size read can h =
      let (some, less) = can_be can in
      let goes : (p : SegmentHeader) → stays f p ≡ false → IsReclaimed f.table (loads_end (without_spare f)) p = λ p fails.
      let was : Spare f p = spare_is f p (not_false (is_spare f p) fails) in
      let far = was.behind in
      record { loaded = was.loaded; behind = omega (arith, far, less); no_header = was.no_header; no_table = was.no_table } in
      let all : without_spare f ≡ filter (stays f) h.kept ++ option_to_list (option_map added_stack h.added) =
      ap (filter (stays f)) h.are_all ∙ filter-append (stays f) h.kept (option_to_list (option_map added_stack h.added))
      ∙ ap (λ (ps : List SegmentHeader). filter (stays f) h.kept ++ ps) (added_left f h.added) in
      let kept : AreKept size (filter (stays f) h.unclaimed) (filter (stays f) h.kept) = kept_left f size h.unclaimed h.kept h.are_kept in
      record {
        unclaimed = filter (stays f) h.unclaimed;
        are_unclaimed = more_went f.table (loads_end (without_spare f)) (stays f) goes read h.unclaimed
            (end_less f.table (loads_end f.segments) (loads_end (without_spare f)) (end_filtered (stays f) f.segments) read h.unclaimed h.are_unclaimed);
        loaded = λ _.
            some_unclaimed size (filter (stays f) h.unclaimed) (filter (stays f) h.kept) (option_to_list (option_map added_stack h.added)) kept (none_added h.added)
            (ap (list_any is_loaded) (sym all) ∙ some);
        kept = filter (stays f) h.kept;
        added = h.added;
        are_kept = kept;
        are_all = all;
        only_one = h.only_one;
      }

  pub segments_left : (size : Option ℕ) (read : List SegmentHeader) → AreSegments f.table size read f.segments → AreSegments f.table size read (segments_reclaimed f)
  unfolding segments_reclaimed
  segments_left size read h = by_can (can_reclaim f) refl
    where
      by_can : (b : Bool) → can_reclaim f ≡ b → AreSegments f.table size read (if b then without_spare f else f.segments)
      by_can true can = taken_away size read can h
      by_can false can = h

  -- the interpreter's program header isn't loaded
  found_left : (type : ℕ) → type ≢ PT_LOAD → (ps : List SegmentHeader) → segment_of_type type (filter (stays f) ps) ≡ segment_of_type type ps
  found_left type other [] = refl
  found_left type other (p ∷ ps) = by_stays (stays f p) refl (found_left type other ps)
    where
      by_stays : (b : Bool) → stays f p ≡ b → segment_of_type type (filter (stays f) ps) ≡ segment_of_type type ps
          → segment_of_type type (cond b (p ∷ filter (stays f) ps) (filter (stays f) ps)) ≡ segment_of_type type (p ∷ ps)
      by_stays true stay rest = ap (λ (o : Option SegmentHeader). if p.p_type == type then Some p else o) rest
      by_stays false goes rest =
          let was : Spare f p = spare_is f p (not_false (is_spare f p) goes) in
          let load = was.loaded in
          let differs : (p.p_type == type) ≡ false = ne_eqb p.p_type type (λ e. other (sym e ∙ load)) in
          rest ∙ sym (ap (λ (b : Bool). if b then Some p else segment_of_type type ps) differs)

  pub interpreter_left : segment_of_type PT_INTERP (segments_reclaimed f) ≡ segment_of_type PT_INTERP f.segments
  unfolding segments_reclaimed
  interpreter_left = by_can (can_reclaim f)
    where
      by_can : (b : Bool) → segment_of_type PT_INTERP (if b then without_spare f else f.segments) ≡ segment_of_type PT_INTERP f.segments
      by_can true = found_left PT_INTERP (λ e. absurd (omega (arith, e))) f.segments
      by_can false = refl

-- ## The image

reclaimed_complete : (read image : Image) → IsComplete read image → IsComplete read (with_dynamic_move image)
reclaimed_complete read image h = record {
  lasting = h.lasting;
  linked = h.linked;
  first_dynamic = h.first_dynamic;
  first_static = h.first_static;
  no_static = h.no_static;
  dynamic_sections = h.dynamic_sections;
  static_sections = h.static_sections;
  dynamic_relocated = h.dynamic_relocated;
  static_relocated = h.static_relocated;
  tables = h.tables;
  interpreter = h.interpreter ∙ sym (ap (λ (o : Option SegmentHeader). is_some o) (interpreter_left (spare_facts image)));
  interpreter_section = h.interpreter_section;
}

-- leave that the dynamic section moves
pub dynamic_moves : (image : Image) → IsEdited image → IsEdited (with_dynamic_move image)
dynamic_moves image h =
    let table : image.header.e_phoff ≡ h.read.header.e_phoff = ap (λ (header : Header). header.e_phoff) h.is_edit.header in
    record {
      read = h.read;
      is_read = h.is_read;
      is_edit = record {
        form = h.is_edit.form;
        header = h.is_edit.header;
        segments =
            subst (λ (n : ℕ). AreSegments n image.page_size h.read.segments (segments_reclaimed (spare_facts image))) table
            (segments_left (spare_facts image) image.page_size h.read.segments
            (subst (λ (n : ℕ). AreSegments n image.page_size h.read.segments image.segments) (sym table) h.is_edit.segments));
        sections = h.is_edit.sections;
        symbols = h.is_edit.symbols;
        dynamic_symbols = h.is_edit.dynamic_symbols;
        definitions = h.is_edit.definitions;
        needs = h.is_edit.needs;
        entries = h.is_edit.entries;
        interpreter = h.is_edit.interpreter;
        complete = reclaimed_complete h.read image h.is_edit.complete;
        unchanged = λ e. absurd (true≢false e);
      };
    }
