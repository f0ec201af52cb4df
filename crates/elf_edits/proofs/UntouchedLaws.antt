-- A list of which no entry is changed or dropped is as it was.
use Rattle.std.proofs.Common.{◌≡◌, ℕ, Bool, true, false, not, List, [], ◌∷◌, ◌++◌, filter, refl, sym, ap, ◌∙◌, Option, Some, None, is_some}
use Rattle.std.specs.Prelude.{if◌then◌else◌, unwrap_or}
use Rattle.std.specs.List.{flat_map, list_any}
use Rattle.std.proofs.lemmas.Bool.{cond-true, cond-false, or_parts}
use Rattle.std.proofs.lemmas.List.Concat.{flat_map-append}
use Rattle.elf_format.specs.declared.constants.TheConstants.{DT_NEEDED}
use Rattle.elf_image.specs.Dynamic.{Auto, Entry, Integer, Text}
use Rattle.elf_edits.specs.Entries.{directories_removed, has_tag, is_replaced, is_run_path, text_if, with_needed_replaced, with_run_paths_shrunk, with_text_changed}
use Rattle.elf_edits.specs.Shrunk.{Removal, Search, removed_from, shrunk_text}
use Rattle.elf_edits.specs.Texts.{has_some, value_of}
use Rattle.elf_edits.proofs.ListLaws.{by_test}
use Rattle.elf_edits.proofs.ShrunkLaws.{none_gone}

pub true_not_false : {P : Type 0} → true ≡ false → P
true_not_false h = absurd (cc)

pub not_false_is : (b : Bool) → not b ≡ false → b ≡ true
not_false_is true h = refl
not_false_is false h = cc

-- where none passes a test, all others are kept
pub all_kept : (test : Entry → Bool) (es : List Entry) → list_any test es ≡ false → filter (λ e. not (test e)) es ≡ es
all_kept test [] none = refl
all_kept test (e ∷ es) none =
    let parts = or_parts (test e) (list_any test es) none in
    cond-true (not (test e)) (e ∷ filter (λ x. not (test x)) es) (filter (λ x. not (test x)) es) (ap not parts.0)
    ∙ ap (λ l. e ∷ l) (all_kept test es parts.1)

pub none_there : {A : Type 0} (xs : List A) → has_some xs ≡ false → xs ≡ []
none_there [] h = refl
none_there (x ∷ xs) h = cc

same_either : {A : Type 0} (b : Bool) (x : A) → (if b then x else x) ≡ x
same_either true x = refl
same_either false x = refl

-- an entry that no pair replaces
module _ (pairs : List (List ℕ × List ℕ)) where
  new_name : List ℕ → List ℕ
  new_name name = unwrap_or (value_of pairs name) name

  same_name : (found : Option (List ℕ)) (name : List ℕ) → is_some found ≡ false → unwrap_or found name ≡ name
  same_name None name h = refl
  same_name (Some value) name h = true_not_false h

  not_replaced : (e : Entry) → is_replaced pairs e ≡ false → (if has_tag DT_NEEDED e then with_text_changed new_name e else e) ≡ e
  unfolding new_name
  not_replaced (Auto tag) h = same_either (has_tag DT_NEEDED (Auto tag)) (Auto tag)
  not_replaced (Integer tag value) h = same_either (has_tag DT_NEEDED (Integer tag value)) (Integer tag value)
  not_replaced (Text tag text) h = by_test (has_tag DT_NEEDED (Text tag text))
      (λ holds.
      let one : list_any (λ name. is_some (value_of pairs name)) (text ∷ []) ≡ false = sym (ap (list_any (λ name. is_some (value_of pairs name))) (cond-true (has_tag DT_NEEDED (Text tag text)) (text ∷ []) [] holds)) ∙ h in
      cond-true (has_tag DT_NEEDED (Text tag text)) (Text tag (unwrap_or (value_of pairs text) text)) (Text tag text) holds
      ∙ ap (Text tag) (same_name (value_of pairs text) text (or_parts (is_some (value_of pairs text)) false one).0))
      (λ fails. cond-false (has_tag DT_NEEDED (Text tag text)) (Text tag (unwrap_or (value_of pairs text) text)) (Text tag text) fails)

  pub none_replaced : (es : List Entry) → list_any (is_replaced pairs) es ≡ false → with_needed_replaced pairs es ≡ es
  unfolding new_name
  none_replaced [] none = refl
  none_replaced (e ∷ es) none =
      let parts = or_parts (is_replaced pairs e) (list_any (is_replaced pairs) es) none in
      ap (λ x. x ∷ with_needed_replaced pairs es) (not_replaced e parts.0) ∙ ap (λ l. e ∷ l) (none_replaced es parts.1)

-- run paths of which no directory goes
none_in_front : {A : Type 0} (xs ys : List A) → xs ++ ys ≡ [] → xs ≡ []
none_in_front [] ys h = refl
none_in_front (x ∷ xs) ys h = cc

none_behind : {A : Type 0} (xs ys : List A) → xs ++ ys ≡ [] → ys ≡ []
none_behind [] ys h = h
none_behind (x ∷ xs) ys h = absurd (cc)

module _ (s : Search) where
  gone_from : Entry → List Removal
  gone_from e = flat_map (removed_from s) (text_if is_run_path e)

  gone_first : (e : Entry) (es : List Entry) → directories_removed s (e ∷ es) ≡ gone_from e ++ directories_removed s es
  unfolding gone_from
  gone_first e es = flat_map-append (removed_from s) (text_if is_run_path e) (flat_map (text_if is_run_path) es)

  not_shrunk : (e : Entry) → gone_from e ≡ [] → (if is_run_path e then with_text_changed (shrunk_text s) e else e) ≡ e
  unfolding gone_from
  not_shrunk (Auto tag) h = same_either (is_run_path (Auto tag)) (Auto tag)
  not_shrunk (Integer tag value) h = same_either (is_run_path (Integer tag value)) (Integer tag value)
  not_shrunk (Text tag text) h = by_test (is_run_path (Text tag text))
      (λ holds.
      let one : removed_from s text ++ [] ≡ [] = sym (ap (flat_map (removed_from s)) (cond-true (is_run_path (Text tag text)) (text ∷ []) [] holds)) ∙ h in
      cond-true (is_run_path (Text tag text)) (Text tag (shrunk_text s text)) (Text tag text) holds
      ∙ ap (Text tag) (none_gone s text (none_in_front (removed_from s text) [] one)))
      (λ fails. cond-false (is_run_path (Text tag text)) (Text tag (shrunk_text s text)) (Text tag text) fails)

  pub none_shrunk : (es : List Entry) → directories_removed s es ≡ [] → with_run_paths_shrunk s es ≡ es
  none_shrunk [] none = refl
  none_shrunk (e ∷ es) none =
      let both : gone_from e ++ directories_removed s es ≡ [] = sym (gone_first e es) ∙ none in
      ap (λ x. x ∷ with_run_paths_shrunk s es) (not_shrunk e (none_in_front (gone_from e) (directories_removed s es) both))
      ∙ ap (λ l. e ∷ l) (none_shrunk es (none_behind (gone_from e) (directories_removed s es) both))
