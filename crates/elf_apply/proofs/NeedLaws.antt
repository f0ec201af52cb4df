-- What replaced libraries make of the needed versions, and leave that the dynamic section moves.
use Rattle.std.proofs.Common.{◌≡◌, ℕ, Bool, true, false, ◌||◌, List, [], ◌∷◌, map, refl, sym, ap, subst, ◌∙◌, inl, inr, Option, Some, None, is_some, option_map}
use Rattle.std.specs.Prelude.{IfSome, IsSome, ◌⊎◌, not, if◌then◌else◌, unwrap_or}
use Rattle.std.specs.List.{flat_map, list_any}
use Rattle.std.specs.declared.alloc.Global.{Global}
use Rattle.std.specs.declared.vec.Vec.{Vec}
use Rattle.std.proofs.lemmas.Bool.{true≢false}
use Rattle.elf_format.specs.declared.records.SegmentHeader.{SegmentHeader}
use Rattle.elf_image.specs.Dynamic.{Entry}
use Rattle.elf_image.specs.Edited.{AreSameNeeds, IsName, IsSameNeed}
use Rattle.elf_image.specs.Image.{Image}
use Rattle.elf_image.specs.ImageModel.{entry_model, needs_model}
use Rattle.elf_image.specs.Options.{first_there}
use Rattle.elf_image.specs.Leave.{spare_facts}
use Rattle.elf_image.specs.Versions.{VersionNeeds}
use Rattle.elf_image.specs.declared.version.VersionNeed.{VersionNeed}
use Rattle.elf_image.specs.Spare.{segments_reclaimed}
use Rattle.elf_edits.specs.declared.list.NewList.{NewList}
use Rattle.elf_edits.specs.Cause.{facts_of}
use Rattle.elf_edits.specs.Edit.{AllowDynamicMove, Edit, ReplaceLibrary, ReplaceNeeded, edited_entries, touches_entries}
use Rattle.elf_edits.specs.Edited.{edited_image, is_list_with, segments_with_leave}
use Rattle.elf_edits.specs.Symbols.{has_new_name, new_name, with_library_replaced}
use Rattle.elf_edits.specs.Texts.{holds_nul, value_of}
use Rattle.elf_edits.proofs.ForCallers.{IsFree, none_replaced, reclaimed_again, value_whole}
use Rattle.elf_apply.specs.declared.draft.Draft.{Draft}
use Rattle.elf_apply.specs.Drafted.{AreNeedsAfter, CanPutNeeds, IsDraftOf, ListsEntries, Writes, drafted, entries_drafted, is_written, needs_drafted, needs_written, with_flags, with_leave, with_list, with_needs, with_page_size}
use Rattle.elf_apply.proofs.DraftLaws.{is_marked, kept_list, list_written, listed_in, or_false, or_true, reclaimed_drafted}

-- ## Names of libraries

name_whole : (name : List ℕ) → holds_nul name ≡ false → IsName name
name_whole name h = ap not h

-- a new name has no NUL, or is the old one
named_or_same : (pairs : List (List ℕ × List ℕ)) (name : List ℕ) → list_any holds_nul (flat_map (λ pair. pair.0 ∷ pair.1 ∷ []) pairs) ≡ false
    → (new_name pairs name ≡ name) ⊎ IsName (new_name pairs name)
named_or_same pairs name free = by_value (value_of pairs name) refl
  where
    by_value : (found : Option (List ℕ)) → value_of pairs name ≡ found → (unwrap_or found name ≡ name) ⊎ IsName (unwrap_or found name)
    by_value None is = inl refl
    by_value (Some new) is = inr (name_whole new (value_whole name new pairs free is))

need_after : (read mid now : VersionNeeds) → IsSameNeed read mid → IsSameNeed mid now → IsSameNeed read now
need_after read mid now first second = (
  elim second.0 [
    | inl same ↦ elim first.0 [ inl was ↦ inl (same ∙ was) | inr named ↦ inr (subst IsName (sym same) named) ]
    | inr named ↦ inr named
  ],
  second.1 ∙ ap (λ (m : VersionNeeds). record m { file = now.file }) first.1,
)

-- each library with its new name
renamed_after : (pairs : List (List ℕ × List ℕ)) → list_any holds_nul (flat_map (λ pair. pair.0 ∷ pair.1 ∷ []) pairs) ≡ false
    → (read now : List VersionNeeds) → AreSameNeeds read now → AreSameNeeds read (map (with_library_replaced pairs) now)
renamed_after pairs free [] [] same = tt
renamed_after pairs free [] (n ∷ ns) same = absurd same
renamed_after pairs free (old ∷ olds) [] same = absurd same
renamed_after pairs free (old ∷ olds) (n ∷ ns) same =
    (need_after old n (with_library_replaced pairs n) same.0 (named_or_same pairs n.file free, refl), renamed_after pairs free olds ns same.1)

as_they_are : (needs : List VersionNeeds) → AreSameNeeds needs needs
as_they_are [] = tt
as_they_are (n ∷ ns) = ((inl refl, refl), as_they_are ns)

-- ## A replaced library

-- an image with the needed versions of replaced libraries
abbrev with_libraries : List (List ℕ × List ℕ) → Image → Image
with_libraries pairs image = record image {
  changed = image.changed || list_any (λ n. has_new_name pairs n.file) image.needs;
  needs = map (with_library_replaced pairs) image.needs;
}

or_turned : (l n : Bool) → (l || n) ≡ (n || l)
or_turned true n = sym (or_true n)
or_turned false n = sym (or_false n)

or_swapped : (a l n : Bool) → ((a || l) || n) ≡ (a || (n || l))
or_swapped true l n = refl
or_swapped false l n = or_turned l n

-- a library is replaced in the list, and then in the needed versions
both_replaced : (pairs : List (List ℕ × List ℕ)) (image : Image) → with_libraries pairs (edited_image (ReplaceNeeded pairs) image) ≡ edited_image (ReplaceLibrary pairs) image
unfolding edited_image edited_entries touches_entries
both_replaced pairs image =
    ap (λ changed. record (edited_image (ReplaceLibrary pairs) image) { changed = changed })
    (or_swapped image.changed (is_list_with (touches_entries image.header.e_machine (ReplaceLibrary pairs)) image.entries) (list_any (λ n. has_new_name pairs n.file) image.needs))

needs_mark : (d : Draft) (made : Vec VersionNeed Global) → is_written (record d { needs = Some made }) ≡ true
needs_mark d made = or_true (((((is_some d.stack_flags || is_some d.page_size) || is_some d.os_abi) || is_some d.interpreter) || is_some d.entries) || is_some d.symbols)

needs_made : (pairs : List (List ℕ × List ℕ)) (image : Image) (d : Draft) (needs : Option (Vec VersionNeed Global)) → AreNeedsAfter pairs (needs_drafted d image.needs) needs
    → drafted (with_needs needs d) image ≡ with_libraries pairs (drafted d image)
unfolding drafted
needs_made pairs image d None after =
    ap (λ b. record (drafted d image) { changed = b }) (sym (or_false (image.changed || is_written d)) ∙ ap (λ b. (image.changed || is_written d) || b) (sym after))
    ∙ ap (λ (l : List VersionNeeds). record (drafted d image) { changed = (image.changed || is_written d) || list_any (λ n. has_new_name pairs n.file) (needs_drafted d image.needs); needs = l })
    (sym (none_replaced pairs (needs_drafted d image.needs) after))
needs_made pairs image d (Some made) after =
    ap (λ b. record (drafted (record d { needs = Some made }) image) { changed = b })
    (is_marked image.changed (is_written (record d { needs = Some made })) (needs_mark d made) ∙ sym (or_true (image.changed || is_written d)) ∙ ap (λ b. (image.changed || is_written d) || b) (sym after.0))
    ∙ ap (λ (l : List VersionNeeds). record (drafted d image) { changed = (image.changed || is_written d) || list_any (λ n. has_new_name pairs n.file) (needs_drafted d image.needs); needs = l }) after.1

needs_of_list : (made : NewList) (d : Draft) → (with_list made d).needs ≡ d.needs
needs_of_list made d = by_test made.is_touched
  where
    by_test : (b : Bool) → (if b then record d { entries = Some made.entries } else d).needs ≡ d.needs
    by_test true = refl
    by_test false = refl

drafted_same : (o : Option (Vec VersionNeed Global)) (needs : List VersionNeeds) → IfSome (option_map (λ l. map needs_model l.items) o) (AreSameNeeds needs)
    → AreSameNeeds needs (unwrap_or (option_map (λ l. map needs_model l.items) o) needs)
drafted_same None needs h = as_they_are needs
drafted_same (Some made) needs h = h

some_listed : (o : Option (List Entry)) (es : List Entry) → o ≡ Some es → IsSome o
some_listed o es is = subst (λ (p : Option (List Entry)). IsSome p) (sym is) refl

-- what was made of the needed versions may be put in place
needs_draft : (pairs : List (List ℕ × List ℕ)) (image : Image) (d : Draft) (needs : Option (Vec VersionNeed Global)) → list_any holds_nul (flat_map (λ pair. pair.0 ∷ pair.1 ∷ []) pairs) ≡ false → IsSome image.entries
    → IsDraftOf image d → AreNeedsAfter pairs (needs_drafted d image.needs) needs → IsDraftOf image (with_needs needs d)
needs_draft pairs image d None free there is after = is
needs_draft pairs image d (Some made) free there is after = record {
  tables = is.tables;
  entries = is.entries;
  interpreter_there = is.interpreter_there;
  interpreter = is.interpreter;
  symbols = is.symbols;
  needs = subst (λ (l : List VersionNeeds). AreSameNeeds image.needs l) (sym after.1) (renamed_after pairs free image.needs (needs_drafted d image.needs) (drafted_same d.needs image.needs is.needs));
  listed = there;
  leave = λ _. is_marked image.changed (is_written (record d { needs = Some made })) (needs_mark d made);
}

-- where an edit of the list is free, so is that of the needed versions with the same names
free_as_needed : (pairs : List (List ℕ × List ℕ)) (image : Image) → IsFree (ReplaceLibrary pairs) (facts_of image) → IsFree (ReplaceNeeded pairs) (facts_of image)
free_as_needed pairs image free = record { list = free.list; interpreter = free.interpreter; texts = free.texts; own = free.own }

pub library_written : (pairs : List (List ℕ × List ℕ)) (image : Image) (d : Draft) (made : NewList) (needs : Option (Vec VersionNeed Global)) → IsFree (ReplaceLibrary pairs) (facts_of image) → ListsEntries image → IsDraftOf image d
    → ((machine : ℕ) → map entry_model made.entries.items ≡ edited_entries machine (ReplaceLibrary pairs) (unwrap_or (first_there (entries_drafted d) image.entries) []))
    → ((machine : ℕ) → made.is_touched ≡ touches_entries machine (ReplaceLibrary pairs) (unwrap_or (first_there (entries_drafted d) image.entries) []))
    → AreNeedsAfter pairs (needs_drafted d image.needs) needs → Writes (ReplaceLibrary pairs) image d (with_needs needs (with_list made d))
unfolding edited_entries touches_entries
library_written pairs image d made needs free listed is list touched after =
    let as_needed = free_as_needed pairs image free in
    let first : Writes (ReplaceNeeded pairs) image d (with_list made d) = list_written (ReplaceNeeded pairs) image d made refl refl refl as_needed listed is list touched in
    let there = listed_in (ReplaceNeeded pairs) image refl refl refl as_needed in
    let after_list : AreNeedsAfter pairs (needs_drafted (with_list made d) image.needs) needs =
    subst (λ (o : Option (Vec VersionNeed Global)). AreNeedsAfter pairs (unwrap_or (option_map (λ l. map needs_model l.items) o) image.needs) needs) (sym (needs_of_list made d)) after in
    record {
      shows = needs_made pairs image (with_list made d) needs after_list ∙ ap (with_libraries pairs) first.shows ∙ both_replaced pairs (drafted d image);
      draft = needs_draft pairs image (with_list made d) needs free.texts (some_listed image.entries there.0 there.1) first.draft after_list;
    }

-- ## The leave

no_list : (o : Option (List Entry)) → is_list_with (λ es. false) o ≡ false
no_list None = refl
no_list (Some es) = refl

leave_alone : (image : Image) → edited_image AllowDynamicMove image ≡ record image { segments = segments_with_leave image.changed image; moves_dynamic = image.moves_dynamic || image.changed }
unfolding edited_image edited_entries touches_entries
leave_alone image =
    ap (λ b. record image { changed = b; segments = segments_with_leave image.changed image; entries = option_map (λ es. es) image.entries; moves_dynamic = image.moves_dynamic || image.changed })
    (ap (λ b. image.changed || b) (no_list image.entries) ∙ or_false image.changed)
    ∙ ap (λ (o : Option (List Entry)). record image { segments = segments_with_leave image.changed image; entries = o; moves_dynamic = image.moves_dynamic || image.changed }) (kept_list image.entries)

-- upon a draft that may have leave spare segments go as from the image
leave_again : (size flags : Option ℕ) (leave changed : Bool) (image : Image) → (leave ≡ true → changed ≡ true)
    → (if changed then segments_reclaimed (record (spare_facts image) { segments = with_page_size size (with_flags flags (segments_with_leave leave image)) }) else with_page_size size (with_flags flags (segments_with_leave leave image)))
    ≡ with_page_size size (with_flags flags (segments_with_leave (leave || changed) image))
leave_again size flags true true image h =
    reclaimed_drafted size flags (record (spare_facts image) { segments = segments_reclaimed (spare_facts image) })
    ∙ ap (λ (ps : List SegmentHeader). with_page_size size (with_flags flags ps)) (reclaimed_again (spare_facts image))
leave_again size flags true false image h = absurd (true≢false (sym (h refl)))
leave_again size flags false true image h = reclaimed_drafted size flags (spare_facts image)
leave_again size flags false false image h = refl

or_joined : (a b c : Bool) → (a || (b || c)) ≡ ((a || b) || c)
or_joined true b c = refl
or_joined false b c = refl

either_marks : (leave changed : Bool) → (leave ≡ true → changed ≡ true) → (leave || changed) ≡ true → changed ≡ true
either_marks true changed h k = h refl
either_marks false changed h k = k

pub leave_written : (image : Image) (d : Draft) → IsDraftOf image d → Writes AllowDynamicMove image d (with_leave image d)
unfolding drafted
leave_written image d is = record {
  shows =
      ap (λ b. record (drafted (with_leave image d) image) { moves_dynamic = b }) (or_joined image.moves_dynamic d.moves_dynamic (image.changed || is_written d))
      ∙ ap (λ (ps : List SegmentHeader). record (drafted d image) { segments = ps; moves_dynamic = (image.moves_dynamic || d.moves_dynamic) || (image.changed || is_written d) })
      (sym (leave_again d.page_size d.stack_flags d.moves_dynamic (image.changed || is_written d) image is.leave))
      ∙ sym (leave_alone (drafted d image));
  draft = record {
    tables = is.tables;
    entries = is.entries;
    interpreter_there = is.interpreter_there;
    interpreter = is.interpreter;
    symbols = is.symbols;
    needs = is.needs;
    listed = is.listed;
    leave = either_marks d.moves_dynamic (image.changed || is_written d) is.leave;
  };
}

-- ## Each edit, as it is called

pub leave_noted : (called : Edit) (image : Image) (d : Draft) → called ≡ AllowDynamicMove → IsDraftOf image d → Writes called image d (with_leave image d)
leave_noted called image d same is = subst (λ (e : Edit). Writes e image d (with_leave image d)) (sym same) (leave_written image d is)

-- ## Putting it in place

each_there : (o : Option (Vec VersionNeed Global)) (P : List VersionNeeds → Type 0) → IfSome (option_map (λ l. map needs_model l.items) o) P → IfSome o (λ l. P (map needs_model l.items))
each_there None P h = h
each_there (Some l) P h = h

-- a list is there, also once another one was put
pub some_first : (o old : Option (List Entry)) → IsSome old → IsSome (first_there o old)
some_first None old h = h
some_first (Some es) old h = refl

pub can_put_needs : (d : Draft) (old now : Image) → IsDraftOf old d → (IsSome old.entries → IsSome now.entries) → now.needs ≡ old.needs → CanPutNeeds now d.needs
can_put_needs d old now is later same = record {
  listed = each_there d.needs (λ _. IsSome now.entries) (by_needs d.needs is.listed);
  same = each_there d.needs (AreSameNeeds now.needs) (subst (λ (l : List VersionNeeds). IfSome (needs_written d) (AreSameNeeds l)) (sym same) is.needs);
}
  where
    by_needs : (o : Option (Vec VersionNeed Global)) → IfSome (option_map (λ l. map needs_model l.items) o) (λ _. IsSome old.entries) → IfSome (option_map (λ l. map needs_model l.items) o) (λ _. IsSome now.entries)
    by_needs None h = h
    by_needs (Some l) h = later h
