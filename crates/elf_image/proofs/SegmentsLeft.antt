-- The program headers of an image of which some are deserted.
use Rattle.std.proofs.Common.{◌≡◌, ◌≢◌, ℕ, ◌≤◌, Bool, true, false, cond, List, [], ◌∷◌, ◌++◌, filter, refl, sym, ap, ◌∙◌, inl, inr, subst, Option, Some, None, arith}
use Rattle.std.specs.Prelude.{◌==◌, ◌&&◌, count_by, find, if◌then◌else◌, not}
use Rattle.std.specs.List.{list_any}
use Rattle.std.specs.Option.{option_map, option_to_list}
use Rattle.std.proofs.lemmas.Bool.{and_parts, false≢true, ne_eqb, not-true, true≢false}
use Rattle.std.proofs.lemmas.List.Elements.{filter-append}
use Rattle.std.proofs.lemmas.Option.{none-some, same_Some}
use Rattle.elf_format.specs.declared.constants.TheConstants.{PT_DYNAMIC, PT_GNU_STACK, PT_INTERP, PT_LOAD}
use Rattle.elf_format.specs.declared.records.SegmentHeader.{SegmentHeader}
use Rattle.elf_format.specs.File.{segment_of_type}
use Rattle.elf_format.specs.Image.{Image}
use Rattle.elf_format.specs.Options.{is_one_of}
use Rattle.elf_image_headers.specs.Segments.{added_stack, loads_end}
use Rattle.elf_image.specs.Along.{begins_in, is_deserted}
use Rattle.elf_image.specs.Deleted.{does_interpreter_go, segments_left}
use Rattle.elf_image.specs.Edited.{AreKept, AreSegments, AreUnclaimed, CanGo, kept_segment}
use Rattle.elf_image.specs.Staying.{going, staying}
use Rattle.elf_image.proofs.ListsLeft.{count_first, find_left, first_place, found_there, left_was, count_some}
use Rattle.elf_image.proofs.SegmentsKept.{gone_kept}
use Rattle.elf_image.proofs.Unclaimed.{count_unclaimed, end_same, find_unclaimed, loads_filtered}

-- ## Some go

module _ (keep : SegmentHeader → Bool) (size : Option ℕ) (can_go : (p : SegmentHeader) → keep p ≡ false → CanGo p) where
  -- one that went could go as it was read
  could_go : (old p : SegmentHeader) → p ≡ kept_segment size p.p_flags old → keep p ≡ false → CanGo old
  could_go old p is fails =
      subst (λ (type : ℕ). (type ≢ PT_LOAD) × (type ≢ PT_DYNAMIC) × (type ≢ PT_GNU_STACK)) (ap (λ (q : SegmentHeader). q.p_type) is) (can_go p fails)

  some_kept : (olds ps : List SegmentHeader) → AreKept size olds ps → AreKept size olds (filter keep ps)
  some_kept [] [] h = tt
  some_kept [] (p ∷ ps) h = absurd h
  some_kept (old ∷ olds) [] h = h
  some_kept (old ∷ olds) (p ∷ ps) h = elim h [
    | inl same ↦ by_keep (keep p) refl same.0 (some_kept olds ps same.1)
    | inr gone ↦ gone_kept size old olds (filter keep (p ∷ ps)) gone.0 (some_kept olds (p ∷ ps) gone.1)
  ]
    where
      by_keep : (b : Bool) → keep p ≡ b → p ≡ kept_segment size p.p_flags old → AreKept size olds (filter keep ps) → AreKept size (old ∷ olds) (cond b (p ∷ filter keep ps) (filter keep ps))
      by_keep true stays is rest = inl (is, rest)
      by_keep false fails is rest = gone_kept size old olds (filter keep ps) (could_go old p is fails) rest

added_stays : (keep : SegmentHeader → Bool) → ((flags : ℕ) → keep (added_stack flags) ≡ true) → (o : Option ℕ)
    → filter keep (option_to_list (option_map added_stack o)) ≡ option_to_list (option_map added_stack o)
added_stays keep stays None = refl
added_stays keep stays (Some flags) = ap (λ (b : Bool). cond b (added_stack flags ∷ []) []) (stays flags)

-- ## Those that are deserted

-- no program header of a type that lasts is deserted
deserted_goes : (image : Image) (gone : List ℕ) (p : SegmentHeader) → is_deserted image gone p ≡ true → CanGo p
deserted_goes image gone p h = by_type (p.p_type == PT_INTERP) refl h
  where
    by_type : (b : Bool) → (p.p_type == PT_INTERP) ≡ b
        → (if b then does_interpreter_go gone image else not (is_one_of (PT_LOAD ∷ PT_DYNAMIC ∷ PT_GNU_STACK ∷ []) p.p_type)
        && list_any (λ s. begins_in p s.section) (going gone image) && not (list_any (λ s. begins_in p s.section) (staying gone image))) ≡ true
        → CanGo p
    by_type true is e = (
      λ type. false≢true (ap (λ (n : ℕ). n == PT_INTERP) (sym type) ∙ is),
      λ type. false≢true (ap (λ (n : ℕ). n == PT_INTERP) (sym type) ∙ is),
      λ type. false≢true (ap (λ (n : ℕ). n == PT_INTERP) (sym type) ∙ is),
    )
    by_type false is e =
        let first = and_parts _ (not (list_any (λ s. begins_in p s.section) (staying gone image))) e in
        let second = and_parts (not (is_one_of (PT_LOAD ∷ PT_DYNAMIC ∷ PT_GNU_STACK ∷ []) p.p_type)) (list_any (λ s. begins_in p s.section) (going gone image)) first.0 in
        let none : is_one_of (PT_LOAD ∷ PT_DYNAMIC ∷ PT_GNU_STACK ∷ []) p.p_type ≡ false = not-true (is_one_of (PT_LOAD ∷ PT_DYNAMIC ∷ PT_GNU_STACK ∷ []) p.p_type) second.0 in (
          λ type. true≢false (ap (is_one_of (PT_LOAD ∷ PT_DYNAMIC ∷ PT_GNU_STACK ∷ [])) (sym type) ∙ none),
          λ type. true≢false (ap (is_one_of (PT_LOAD ∷ PT_DYNAMIC ∷ PT_GNU_STACK ∷ [])) (sym type) ∙ none),
          λ type. true≢false (ap (is_one_of (PT_LOAD ∷ PT_DYNAMIC ∷ PT_GNU_STACK ∷ [])) (sym type) ∙ none),
        )

not_false : (b : Bool) → not b ≡ false → b ≡ true
not_false true h = refl
not_false false h = absurd (true≢false h)

pub segments_without : (image : Image) (gone : List ℕ) (table : ℕ) (size : Option ℕ) (read : List SegmentHeader) → AreSegments table size read image.segments
    → AreSegments table size read (segments_left gone image)
segments_without image gone table size read h =
    let keep : SegmentHeader → Bool = λ p. not (is_deserted image gone p) in
    let goes : (p : SegmentHeader) → keep p ≡ false → CanGo p = λ p fails. deserted_goes image gone p (not_false (is_deserted image gone p) fails) in
    let end : loads_end (segments_left gone image) ≡ loads_end image.segments =
    end_same (segments_left gone image) image.segments (loads_filtered keep (λ p fails. ne_eqb p.p_type PT_LOAD (goes p fails).0) image.segments) in
    record {
      unclaimed = h.unclaimed;
      are_unclaimed = subst (λ (e : ℕ). AreUnclaimed table e read h.unclaimed) (sym end) h.are_unclaimed;
      loaded = h.loaded;
      kept = filter keep h.kept;
      added = h.added;
      are_kept = some_kept keep size goes h.unclaimed h.kept h.are_kept;
      are_all =
          ap (filter keep) h.are_all ∙ filter-append keep h.kept (option_to_list (option_map added_stack h.added))
          ∙ ap (λ (ps : List SegmentHeader). filter keep h.kept ++ ps) (added_stays keep (λ flags. refl) h.added);
      only_one = h.only_one;
    }

-- ## The interpreter's

abbrev pub is_interpreter : SegmentHeader → Bool
is_interpreter p = p.p_type == PT_INTERP

-- whether the interpreter's program header is deserted is told by the interpreter's section
interpreter_deserted : (image : Image) (gone : List ℕ) (p : SegmentHeader) → is_interpreter p ≡ true → is_deserted image gone p ≡ does_interpreter_go gone image
interpreter_deserted image gone p is =
    ap (λ (b : Bool). if b then does_interpreter_go gone image else not (is_one_of (PT_LOAD ∷ PT_DYNAMIC ∷ PT_GNU_STACK ∷ []) p.p_type)
    && list_any (λ s. begins_in p s.section) (going gone image) && not (list_any (λ s. begins_in p s.section) (staying gone image))) is

-- the interpreter's program header stays with the section
pub interpreter_stays : (image : Image) (gone : List ℕ) → does_interpreter_go gone image ≡ false → segment_of_type PT_INTERP (segments_left gone image) ≡ segment_of_type PT_INTERP image.segments
interpreter_stays image gone stays =
    find_left (λ p. not (is_deserted image gone p)) is_interpreter image.segments (λ p has is. ap not (interpreter_deserted image gone p is ∙ stays))

-- the interpreter's program header goes with the section
pub interpreter_gone : (image : Image) (gone : List ℕ) → does_interpreter_go gone image ≡ true → segment_of_type PT_INTERP (segments_left gone image) ≡ None
interpreter_gone image gone goes = by_found (segment_of_type PT_INTERP (segments_left gone image)) refl
  where
    by_found : (o : Option SegmentHeader) → segment_of_type PT_INTERP (segments_left gone image) ≡ o → o ≡ None
    by_found None is = refl
    by_found (Some p) is =
        let (has, typed) = found_there is_interpreter (segments_left gone image) p is in
        let (_, stays) = left_was (λ q. not (is_deserted image gone q)) image.segments p has in
        absurd (false≢true (sym (ap not (interpreter_deserted image gone p typed ∙ goes)) ∙ stays))

-- where there is a program header for the interpreter, it is the one that was read
module _ (size : Option ℕ) where
  first_by : (p : SegmentHeader) (ps : List SegmentHeader) (b : Bool) → is_interpreter p ≡ b → find is_interpreter (p ∷ ps) ≡ (if b then Some p else find is_interpreter ps)
  first_by p ps b is = ap (λ (c : Bool). if c then Some p else find is_interpreter ps) is

  abbrev IsOfRead : List SegmentHeader → SegmentHeader → Type 0
  IsOfRead olds p = (old : SegmentHeader) × (find is_interpreter olds ≡ Some old) × (p ≡ kept_segment size p.p_flags old)

  same_kind : (old p : SegmentHeader) → p ≡ kept_segment size p.p_flags old → is_interpreter old ≡ is_interpreter p
  same_kind old p is = ap is_interpreter (sym is)

  -- one that is kept
  kept_by : (old : SegmentHeader) (olds : List SegmentHeader) (p : SegmentHeader) (rest : Option SegmentHeader) (found : SegmentHeader) (b : Bool) → is_interpreter p ≡ b
      → p ≡ kept_segment size p.p_flags old → (rest ≡ Some found → IsOfRead olds found) → (if b then Some p else rest) ≡ Some found → IsOfRead (old ∷ olds) found
  kept_by old olds p rest found true typed is more e =
      let same : p ≡ found = same_Some p found e in
      (old, first_by old olds true (same_kind old p is ∙ typed), subst (λ (q : SegmentHeader). q ≡ kept_segment size q.p_flags old) same is)
  kept_by old olds p rest found false typed is more e =
      let (other, there, as_read) = more e in
      (other, first_by old olds false (same_kind old p is ∙ typed) ∙ there, as_read)

  -- one that went
  went_by : (old : SegmentHeader) (olds : List SegmentHeader) (found : SegmentHeader) (b : Bool) → is_interpreter old ≡ b → count_by is_interpreter (old ∷ olds) ≤ 1 → IsOfRead olds found
      → IsOfRead (old ∷ olds) found
  went_by old olds found true typed few (other, there, as_read) =
      let (i, first) = first_place is_interpreter olds other there in
      let one : ◌≡◌ {A = ℕ} (cond (is_interpreter old) 1 0) 1 = ap (λ (b : Bool). cond b 1 0) typed in
      absurd (omega (arith, few, count_first is_interpreter old olds, one, count_some is_interpreter olds i other first.at first.passes))
  went_by old olds found false typed few (other, there, as_read) = (other, first_by old olds false typed ∙ there, as_read)

  pub first_of_read : (olds ps more : List SegmentHeader) (found : SegmentHeader) → count_by is_interpreter olds ≤ 1 → AreKept size olds ps → find is_interpreter more ≡ None
      → find is_interpreter (ps ++ more) ≡ Some found → IsOfRead olds found
  first_of_read [] [] more found few h none e = absurd (none-some found (sym none ∙ e))
  first_of_read [] (p ∷ ps) more found few h none e = absurd h
  first_of_read (old ∷ olds) [] more found few h none e = absurd (none-some found (sym none ∙ e))
  first_of_read (old ∷ olds) (p ∷ ps) more found few h none e =
      let fewer : count_by is_interpreter olds ≤ 1 = omega (arith, few, count_first is_interpreter old olds) in
      elim h [
        | inl same ↦ kept_by old olds p (find is_interpreter (ps ++ more)) found (is_interpreter p) refl same.0 (first_of_read olds ps more found fewer same.1 none) e
        | inr gone ↦ went_by old olds found (is_interpreter old) refl few (first_of_read olds (p ∷ ps) more found fewer gone.1 none e)
      ]

  no_interpreter_added : (o : Option ℕ) → find is_interpreter (option_to_list (option_map added_stack o)) ≡ None
  no_interpreter_added None = refl
  no_interpreter_added (Some flags) = refl

  pub interpreter_of_read : (table : ℕ) (read now : List SegmentHeader) (found : SegmentHeader) → count_by is_interpreter read ≤ 1 → AreSegments table size read now
      → segment_of_type PT_INTERP now ≡ Some found → (old : SegmentHeader) × (segment_of_type PT_INTERP read ≡ Some old) × (found ≡ kept_segment size found.p_flags old)
  interpreter_of_read table read now found few h is =
      let other : (p : SegmentHeader) → p.p_type ≡ PT_LOAD → is_interpreter p ≡ false = λ p load. ap (λ (n : ℕ). n == PT_INTERP) load in
      let fewer : count_by is_interpreter h.unclaimed ≤ 1 =
      subst (λ (n : ℕ). n ≤ 1) (sym (count_unclaimed table (loads_end now) is_interpreter other read h.unclaimed h.are_unclaimed)) few in
      let (old, there, as_kept) = first_of_read h.unclaimed h.kept (option_to_list (option_map added_stack h.added)) found fewer h.are_kept (no_interpreter_added h.added)
      (ap (find is_interpreter) (sym h.are_all) ∙ is) in
      (old, sym (find_unclaimed table (loads_end now) is_interpreter other read h.unclaimed h.are_unclaimed) ∙ there, as_kept)
