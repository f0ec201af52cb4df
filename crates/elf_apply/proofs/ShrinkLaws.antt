-- What a shrunk list leaves of an image.
use Rattle.std.proofs.Common.{◌≡◌, ℕ, true, false, ◌||◌, List, [], ◌∷◌, length, map, refl, sym, ap, subst, ◌∙◌, Option, Some, None, option_map, Result, Ok, Err, arith}
use Rattle.std.specs.Prelude.{All, IfOk, ◌==◌, unwrap_or}
use Rattle.std.proofs.lemmas.Bool.{eqb-true}
use Rattle.elf_image.specs.Dynamic.{Entry}
use Rattle.elf_image.specs.DynamicList.{IsListed, KeepsTables}
use Rattle.elf_image.specs.Image.{Image}
use Rattle.elf_image.specs.ImageModel.{entry_model}
use Rattle.elf_edits.specs.Cause.{Facts, cause, facts_of, first_cause}
use Rattle.elf_edits.specs.Edit.{Answer, Edit, ShrinkRpath, edited_entries, touches_entries}
use Rattle.elf_edits.specs.Edited.{is_list_with, step}
use Rattle.elf_edits.specs.Entries.{directories_removed, search_of, with_run_paths_shrunk}
use Rattle.elf_edits.specs.Texts.{has_some}
use Rattle.elf_edits_shrink.specs.declared.lists.ShrunkList.{ShrunkList}
use Rattle.elf_edits_shrink.specs.Removals.{removed_by}
use Rattle.elf_edits_shrink.specs.ShrinkModel.{removal_model}
use Rattle.elf_edits.proofs.ForCallers.{is_free, lists_again, step_is, untouched}
use Rattle.elf_apply.specs.Drafted.{IsShrunkOf, ListsEntries}
use Rattle.elf_apply.proofs.DraftLaws.{listed_in, or_false, or_true, rest_stays}

-- a list may be put in place of the image's
pub record CanPut (image : Image) (es : List Entry) : Type 0 where
  pub tables : KeepsTables image.entries es
  pub entries : All IsListed es

-- a list that shrank, by the entries and the machine of the image
pub shrunk_is : {E : Type 0} (r : Result ShrunkList E) (prefixes : List (List ℕ)) (answers : List Answer) (machine : ℕ) (es : List Entry) (image : Image) → machine ≡ image.header.e_machine → es ≡ unwrap_or image.entries []
    → IfOk r (λ made. map entry_model made.entries.items ≡ with_run_paths_shrunk (search_of machine prefixes answers es) es)
    → IfOk r (λ made. map removal_model made.removed.items ≡ directories_removed (search_of machine prefixes answers es) es)
    → IfOk r (IsShrunkOf (ShrinkRpath prefixes answers) image)
unfolding edited_entries
shrunk_is (Ok made) prefixes answers machine es image of_machine of_list list gone = record {
  entries =
      list
      ∙ ap (λ (l : List Entry). with_run_paths_shrunk (search_of machine prefixes answers l) l) of_list
      ∙ ap (λ m. with_run_paths_shrunk (search_of m prefixes answers (unwrap_or image.entries [])) (unwrap_or image.entries [])) of_machine;
  removed =
      gone
      ∙ ap (λ (l : List Entry). directories_removed (search_of machine prefixes answers l) l) of_list
      ∙ ap (λ m. directories_removed (search_of m prefixes answers (unwrap_or image.entries [])) (unwrap_or image.entries [])) of_machine;
}
shrunk_is (Err e) prefixes answers machine es image of_machine of_list list gone = tt

-- no cause was found, by the facts of the image
pub found_none : (edit : Edit) (image : Image) (facts : Facts) → facts ≡ facts_of image → None ≡ first_cause edit facts → cause edit image ≡ None
unfolding cause
found_none edit image facts same none = sym (none ∙ ap (λ (f : Facts). first_cause edit f) same)

-- a list by its length
pub some_there : {A : Type 0} (xs : List A) (n : ℕ) → n ≡ length xs → (n == 0) ≡ false → has_some xs ≡ true
some_there [] n e h = let both : true ≡ false = sym (ap (λ (m : ℕ). m == 0) e) ∙ h in absurd (cc)
some_there (x ∷ xs) n e h = refl

pub none_there : {A : Type 0} (xs : List A) (n : ℕ) → n ≡ length xs → (n == 0) ≡ true → has_some xs ≡ false
none_there [] n e h = refl
none_there (x ∷ xs) n e h = let zero_of : n ≡ 0 = eqb-true n 0 h in absurd (omega arith)

some_changed : {A B : Type 0} (f : A → B) (xs : List A) → has_some (map f xs) ≡ has_some xs
some_changed f [] = refl
some_changed f (x ∷ xs) = refl

module _ (prefixes : List (List ℕ)) (answers : List Answer) (old : Image) (none : cause (ShrinkRpath prefixes answers) old ≡ None) where
  shrinking : Edit
  shrinking = ShrinkRpath prefixes answers

  there : (es : List Entry) × (old.entries ≡ Some es)
  unfolding cause
  there = listed_in (ShrinkRpath prefixes answers) old refl refl refl (is_free (ShrinkRpath prefixes answers) (facts_of old) none)

  -- the list that is there
  listed : unwrap_or old.entries [] ≡ there.0
  listed = ap (λ o. unwrap_or o []) there.1

  shrunk_entries : (made : ShrunkList) → IsShrunkOf (ShrinkRpath prefixes answers) old made → map entry_model made.entries.items ≡ edited_entries old.header.e_machine (ShrinkRpath prefixes answers) there.0
  shrunk_entries made is = is.entries ∙ ap (edited_entries old.header.e_machine (ShrinkRpath prefixes answers)) listed

  pub can_put : (made : ShrunkList) → ListsEntries old → IsShrunkOf (ShrinkRpath prefixes answers) old made → CanPut old (map entry_model made.entries.items)
  unfolding cause
  can_put made all is =
      let free = is_free (ShrinkRpath prefixes answers) (facts_of old) none in
      let again = lists_again old.header.e_machine (ShrinkRpath prefixes answers) there.0 free.texts (subst (λ (o : Option (List Entry)). All IsListed (unwrap_or o [])) there.1 all) in
      record {
        tables = subst (λ (o : Option (List Entry)). KeepsTables o (map entry_model made.entries.items)) (sym there.1) (subst (λ (l : List Entry). KeepsTables (Some there.0) l) (sym (shrunk_entries made is)) again.tables);
        entries = subst (λ (l : List Entry). All IsListed l) (sym (shrunk_entries made is)) again.listed;
      }

  -- the directories that went
  pub removed_are : (made : ShrunkList) → IsShrunkOf (ShrinkRpath prefixes answers) old made → map removal_model made.removed.items ≡ removed_by (ShrinkRpath prefixes answers) old
  removed_are made is =
      is.removed
      ∙ ap (λ (o : Option (List Entry)). removed_by (ShrinkRpath prefixes answers) (record old { entries = Some (unwrap_or o []) })) there.1
      ∙ sym (ap (λ (o : Option (List Entry)). removed_by (ShrinkRpath prefixes answers) (record old { entries = o })) there.1)

  -- the mark
  marked : (made : ShrunkList) → IsShrunkOf (ShrinkRpath prefixes answers) old made → is_list_with (touches_entries old.header.e_machine (ShrinkRpath prefixes answers)) old.entries ≡ has_some made.removed.items
  unfolding touches_entries
  marked made is =
      ap (is_list_with (touches_entries old.header.e_machine (ShrinkRpath prefixes answers))) there.1
      ∙ sym (ap (λ (o : Option (List Entry)). has_some (removed_by (ShrinkRpath prefixes answers) (record old { entries = o }))) there.1)
      ∙ sym (ap has_some (removed_are made is))
      ∙ some_changed removal_model made.removed.items

  pub some_gone : (made : ShrunkList) (new : Image) → IsShrunkOf (ShrinkRpath prefixes answers) old made → has_some made.removed.items ≡ true
      → new ≡ record old { changed = true; entries = Some (map entry_model made.entries.items) } → step (ShrinkRpath prefixes answers) old ≡ Ok new
  some_gone made new is some put =
      let listed_new : option_map (edited_entries old.header.e_machine (ShrinkRpath prefixes answers)) old.entries ≡ Some (map entry_model made.entries.items) =
      ap (option_map (edited_entries old.header.e_machine (ShrinkRpath prefixes answers))) there.1 ∙ ap Some (sym (shrunk_entries made is)) in
      step_is (ShrinkRpath prefixes answers) old none
      ∙ ap Ok (rest_stays (ShrinkRpath prefixes answers) refl refl refl old
      ∙ ap (λ b. record old { changed = b; entries = option_map (edited_entries old.header.e_machine (ShrinkRpath prefixes answers)) old.entries }) (ap (λ b. old.changed || b) (marked made is ∙ some) ∙ or_true old.changed)
      ∙ ap (λ (o : Option (List Entry)). record old { changed = true; entries = o }) listed_new
      ∙ sym put)

  pub none_gone : (made : ShrunkList) (new : Image) → IsShrunkOf (ShrinkRpath prefixes answers) old made → has_some made.removed.items ≡ false → new ≡ old → step (ShrinkRpath prefixes answers) old ≡ Ok new
  none_gone made new is fails put =
      let mark : is_list_with (touches_entries old.header.e_machine (ShrinkRpath prefixes answers)) old.entries ≡ false = marked made is ∙ fails in
      let same : option_map (edited_entries old.header.e_machine (ShrinkRpath prefixes answers)) old.entries ≡ old.entries =
      ap (option_map (edited_entries old.header.e_machine (ShrinkRpath prefixes answers))) there.1
      ∙ ap Some (untouched old.header.e_machine (ShrinkRpath prefixes answers) there.0 (sym (ap (is_list_with (touches_entries old.header.e_machine (ShrinkRpath prefixes answers))) there.1) ∙ mark))
      ∙ sym there.1 in
      step_is (ShrinkRpath prefixes answers) old none
      ∙ ap Ok (rest_stays (ShrinkRpath prefixes answers) refl refl refl old
      ∙ ap (λ b. record old { changed = b; entries = option_map (edited_entries old.header.e_machine (ShrinkRpath prefixes answers)) old.entries }) (ap (λ b. old.changed || b) mark ∙ or_false old.changed)
      ∙ ap (λ (o : Option (List Entry)). record old { changed = old.changed; entries = o }) same
      ∙ sym put)
