-- Steps of making a list: entries that stay, libraries that come, and which edit a list is made by.
use Rattle.std.proofs.Common.{◌≡◌, ℕ, ◌+◌, ◌<◌, Bool, true, false, cond, not, ◌||◌, List, [], ◌∷◌, ◌++◌, length, take, get_or, map, filter, refl, sym, ap, ◌∙◌, Option, Some, None, Result, Ok, Err, is_some, Bor}
use Rattle.std.specs.Prelude.{if◌then◌else◌, IfOk, unwrap_or}
use Rattle.std.specs.List.{list_any}
use Rattle.std.proofs.lemmas.Bool.{cond-true, cond-false}
use Rattle.std.proofs.lemmas.List.{append-nil, map-append}
use Rattle.std.proofs.lemmas.List.Elements.{filter-append}
use Rattle.std.proofs.Math.Path.{fun_ext}
use Rattle.std.specs.declared.alloc.Global.{Global}
use Rattle.std.specs.declared.vec.Vec.{Vec}
use Rattle.elf_format.specs.declared.constants.TheConstants.{DT_NEEDED}
use Rattle.elf_image.specs.declared.dynamic.Dynamic.{Dynamic}
use Rattle.elf_image.specs.Dynamic.{Auto, Entry, Integer, Text}
use Rattle.elf_image.specs.ImageModel.{entry_model}
use Rattle.elf_edits.specs.declared.list.NewList.{NewList}
use Rattle.elf_edits.specs.Changes.{IsEditedList, IsNewList, gets_name, has_name, name_for, needs_one_of as needs_any}
use Rattle.elf_edits.specs.declared.edit.ElfEdit.{ElfEdit}
use Rattle.elf_edits.specs.declared.edit.ElfEdit.TheVariants as edits
use Rattle.elf_edits.specs.TextModel.{Bytes, texts_model}
use Rattle.elf_edits.specs.Edit.{edit_model, edited_entries, touches_entries}
use Rattle.elf_edits.specs.Entries.{changed_where, has_tag, is_replaced, needed_names, needs_one_of, not_needed_yet, text_if, with_needed_replaced, with_text_changed, without_needed}
use Rattle.elf_edits.specs.Texts.{is_among, value_of}
use Rattle.elf_edits.proofs.ListLaws.{by_test, changed_where_none}
use Rattle.elf_edits.proofs.LookupSteps.{one_more}

-- ## Entries that stay

module _ (keep : Entry → Bool) (es : List Dynamic) (i : ℕ) (x : Dynamic) (here : i < length es) (is : x ≡ get_or es i x) where
  kept_more : filter keep (map entry_model (take (i + 1) es)) ≡ filter keep (map entry_model (take i es)) ++ cond (keep (entry_model x)) (entry_model x ∷ []) []
  kept_more =
      ap (λ (l : List Dynamic). filter keep (map entry_model l)) (one_more es i x here is)
      ∙ ap (filter keep) (map-append entry_model (take i es) (x ∷ []))
      ∙ filter-append keep (map entry_model (take i es)) (entry_model x ∷ [])

  pub put_one : (made : List Dynamic) (y : Dynamic) → map entry_model made ≡ filter keep (map entry_model (take i es)) → keep (entry_model x) ≡ true → entry_model y ≡ entry_model x
      → map entry_model (made ++ y ∷ []) ≡ filter keep (map entry_model (take (i + 1) es))
  put_one made y so_far stays same =
      map-append entry_model made (y ∷ []) ∙ ap (λ l. l ++ entry_model y ∷ []) so_far ∙ ap (λ e. filter keep (map entry_model (take i es)) ++ e ∷ []) same
      ∙ sym (kept_more ∙ ap (λ l. filter keep (map entry_model (take i es)) ++ l) (cond-true (keep (entry_model x)) (entry_model x ∷ []) [] stays))

  pub put_none : (made : List Entry) → made ≡ filter keep (map entry_model (take i es)) → keep (entry_model x) ≡ false → made ≡ filter keep (map entry_model (take (i + 1) es))
  put_none made so_far goes =
      so_far ∙ sym (kept_more ∙ ap (λ l. filter keep (map entry_model (take i es)) ++ l) (cond-false (keep (entry_model x)) (entry_model x ∷ []) [] goes) ∙ append-nil (filter keep (map entry_model (take i es))))

-- ## Libraries that are added

module _ (has : List ℕ → Bool) (names : List Bytes) (i : ℕ) (x : Bytes) (here : i < length names) (is : x ≡ get_or names i x) where
  new_in : List (List ℕ) → List (List ℕ)
  new_in texts = filter (λ name. not (has name)) texts

  new_more : new_in (texts_model (take (i + 1) names)) ≡ new_in (texts_model (take i names)) ++ cond (not (has x.items)) (x.items ∷ []) []
  unfolding new_in
  new_more =
      ap (λ (l : List Bytes). new_in (texts_model l)) (one_more names i x here is)
      ∙ ap new_in (map-append (λ (t : Bytes). t.items) (take i names) (x ∷ []))
      ∙ filter-append (λ name. not (has name)) (texts_model (take i names)) (x.items ∷ [])

  pub add_one : (made : List Dynamic) (y : Dynamic) → map entry_model made ≡ map (Text DT_NEEDED) (filter (λ name. not (has name)) (texts_model (take i names))) → has x.items ≡ false → entry_model y ≡ Text DT_NEEDED x.items
      → map entry_model (made ++ y ∷ []) ≡ map (Text DT_NEEDED) (filter (λ name. not (has name)) (texts_model (take (i + 1) names)))
  unfolding new_in
  add_one made y so_far new text =
      map-append entry_model made (y ∷ []) ∙ ap (λ l. l ++ entry_model y ∷ []) so_far ∙ ap (λ e. map (Text DT_NEEDED) (new_in (texts_model (take i names))) ++ e ∷ []) text
      ∙ sym (map-append (Text DT_NEEDED) (new_in (texts_model (take i names))) (x.items ∷ []))
      ∙ sym (ap (map (Text DT_NEEDED)) (new_more ∙ ap (λ l. new_in (texts_model (take i names)) ++ l) (cond-true (not (has x.items)) (x.items ∷ []) [] (ap not new))))

  pub add_none : (made : List Entry) → made ≡ map (Text DT_NEEDED) (filter (λ name. not (has name)) (texts_model (take i names))) → has x.items ≡ true
      → made ≡ map (Text DT_NEEDED) (filter (λ name. not (has name)) (texts_model (take (i + 1) names)))
  unfolding new_in
  add_none made so_far there =
      so_far ∙ sym (ap (map (Text DT_NEEDED)) (new_more ∙ ap (λ l. new_in (texts_model (take i names)) ++ l) (cond-false (not (has x.items)) (x.items ∷ []) [] (ap not there)) ∙ append-nil (new_in (texts_model (take i names)))))

-- a set has the libraries that are needed
pub new_by_set : {E : Type 0} (r : Result (Vec Dynamic Global) E) (set : List (Bor (List ℕ))) (names : List (List ℕ)) (es : List Entry) → ((name : List ℕ) → has_name set name ≡ is_among (needed_names es) name)
    → IfOk r (λ made. map entry_model made.items ≡ map (Text DT_NEEDED) (filter (λ name. not (has_name set name)) names)) → IfOk r (λ made. map entry_model made.items ≡ map (Text DT_NEEDED) (not_needed_yet names es))
new_by_set (Ok made) set names es same is = is ∙ ap (λ (f : List ℕ → Bool). map (Text DT_NEEDED) (filter (λ name. not (f name)) names)) (fun_ext same)
new_by_set (Err x) set names es same is = tt

-- ## Which list it is

-- another way to say which list was made
pub same_list : {E : Type 0} (r : Result NewList E) (es other : List Entry) (touched mark : Bool) → es ≡ other → touched ≡ mark → IfOk r (IsNewList es touched) → IfOk r (IsNewList other mark)
same_list (Ok made) es other touched mark e m is = record { entries = is.entries ∙ e; is_touched = is.is_touched ∙ m }
same_list (Err x) es other touched mark e m is = tt

-- no edit with its values looks at the machine
entries_of_any : (edit : ElfEdit) (machine : ℕ) (es : List Entry) → edited_entries 0 (edit_model edit) es ≡ edited_entries machine (edit_model edit) es
unfolding edited_entries
entries_of_any edits.AddDebugTag machine es = refl
entries_of_any _ machine es = refl

touches_of_any : (edit : ElfEdit) (machine : ℕ) (es : List Entry) → touches_entries 0 (edit_model edit) es ≡ touches_entries machine (edit_model edit) es
unfolding touches_entries
touches_of_any edits.AddDebugTag machine es = refl
touches_of_any _ machine es = refl

pub on_any_machine : {E : Type 0} (r : Result NewList E) (edit : ElfEdit) (es : List Entry) → IfOk r (IsNewList (edited_entries 0 (edit_model edit) es) (touches_entries 0 (edit_model edit) es)) → IfOk r (IsEditedList (edit_model edit) es)
on_any_machine (Ok made) edit es is = record { list = λ machine. is.entries ∙ entries_of_any edit machine es; touched = λ machine. is.is_touched ∙ touches_of_any edit machine es }
on_any_machine (Err x) edit es is = tt

-- nothing is changed where the edit is about no entry
pub none_changed : {E : Type 0} (r : Result NewList E) (test : Entry → Bool) (change : Entry → Entry) (es : List Entry) → list_any test es ≡ false → IfOk r (IsNewList es false) → IfOk r (IsNewList (changed_where test change es) (list_any test es))
none_changed r test change es none is = same_list r es (changed_where test change es) false (list_any test es) (sym (changed_where_none test change es none)) (sym none) is

-- ## Names in sets and maps

-- a set has the names of a list
pub delete_by_set : {E : Type 0} (r : Result NewList E) (set : List (Bor (List ℕ))) (names : List (List ℕ)) (es : List Entry) → ((name : List ℕ) → has_name set name ≡ is_among names name)
    → IfOk r (IsNewList (filter (λ e. not (needs_any set e)) es) (list_any (needs_any set) es)) → IfOk r (IsNewList (without_needed names es) (list_any (needs_one_of names) es))
delete_by_set r set names es same is =
    same_list r (filter (λ e. not (needs_any set e)) es) (without_needed names es) (list_any (needs_any set) es) (list_any (needs_one_of names) es)
    (ap (λ (f : List ℕ → Bool). filter (λ e. not (list_any f (text_if (has_tag DT_NEEDED) e))) es) (fun_ext same))
    (ap (λ (f : List ℕ → Bool). list_any (λ e. list_any f (text_if (has_tag DT_NEEDED) e)) es) (fun_ext same)) is

module _ (f : List ℕ → Option (List ℕ)) where
  new_name : List ℕ → List ℕ
  new_name name = unwrap_or (f name) name

  is_named : Entry → Bool
  is_named e = list_any (λ name. is_some (f name)) (text_if (has_tag DT_NEEDED) e)

  same_either : (b : Bool) (e : Entry) → e ≡ (if b then e else e)
  same_either true e = refl
  same_either false e = refl

  with_name : (o : Option (List ℕ)) (tag : ℕ) (text : List ℕ) → (if is_some o || false then Text tag (unwrap_or o text) else Text tag text) ≡ Text tag (unwrap_or o text)
  with_name None tag text = refl
  with_name (Some name) tag text = refl

  -- an entry that needs a library without a new name is as it was, renamed or not
  named_or_not : (e : Entry) → (if is_named e then with_text_changed new_name e else e) ≡ (if has_tag DT_NEEDED e then with_text_changed new_name e else e)
  unfolding new_name is_named
  named_or_not (Auto tag) = same_either (has_tag DT_NEEDED (Auto tag)) (Auto tag)
  named_or_not (Integer tag value) = same_either (has_tag DT_NEEDED (Integer tag value)) (Integer tag value)
  named_or_not (Text tag text) = by_test (has_tag DT_NEEDED (Text tag text))
      (λ holds.
      ap (λ (l : List (List ℕ)). if list_any (λ name. is_some (f name)) l then Text tag (unwrap_or (f text) text) else Text tag text) (cond-true (has_tag DT_NEEDED (Text tag text)) (text ∷ []) [] holds)
      ∙ with_name (f text) tag text
      ∙ sym (cond-true (has_tag DT_NEEDED (Text tag text)) (Text tag (unwrap_or (f text) text)) (Text tag text) holds))
      (λ fails.
      ap (λ (l : List (List ℕ)). if list_any (λ name. is_some (f name)) l then Text tag (unwrap_or (f text) text) else Text tag text) (cond-false (has_tag DT_NEEDED (Text tag text)) (text ∷ []) [] fails)
      ∙ sym (cond-false (has_tag DT_NEEDED (Text tag text)) (Text tag (unwrap_or (f text) text)) (Text tag text) fails))

  all_named : (es : List Entry) → changed_where is_named (with_text_changed new_name) es ≡ changed_where (has_tag DT_NEEDED) (with_text_changed new_name) es
  all_named [] = refl
  all_named (e ∷ es) = ap (λ x. x ∷ changed_where is_named (with_text_changed new_name) es) (named_or_not e) ∙ ap (λ l. (if has_tag DT_NEEDED e then with_text_changed new_name e else e) ∷ l) (all_named es)

-- a map has the values of a list of pairs
pub replace_by_map : {E : Type 0} (r : Result NewList E) (names : List (Bor (List ℕ) × Bor (List ℕ))) (pairs : List (List ℕ × List ℕ)) (es : List Entry) → ((name : List ℕ) → name_for names name ≡ value_of pairs name)
    → IfOk r (IsNewList (changed_where (gets_name names) (with_text_changed (λ name. unwrap_or (name_for names name) name)) es) (list_any (gets_name names) es))
    → IfOk r (IsNewList (with_needed_replaced pairs es) (list_any (is_replaced pairs) es))
unfolding new_name is_named
replace_by_map r names pairs es same is =
    same_list r (changed_where (gets_name names) (with_text_changed (λ name. unwrap_or (name_for names name) name)) es) (with_needed_replaced pairs es) (list_any (gets_name names) es) (list_any (is_replaced pairs) es)
    (all_named (name_for names) es
    ∙ ap (λ (f : List ℕ → Option (List ℕ)). changed_where (has_tag DT_NEEDED) (with_text_changed (λ name. unwrap_or (f name) name)) es) (fun_ext same))
    (ap (λ (f : List ℕ → Option (List ℕ)). list_any (λ e. list_any (λ name. is_some (f name)) (text_if (has_tag DT_NEEDED) e)) es) (fun_ext same)) is
