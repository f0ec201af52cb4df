-- What edits make of the dynamic list.
use Rattle.std.proofs.Common.{◌≡◌, ℕ, Bool, true, false, not, List, [], ◌∷◌, ◌++◌, map, refl, sym, ap, subst, ◌∙◌, Option, Some, None}
use Rattle.std.specs.Prelude.{if◌then◌else◌, All, unwrap_or}
use Rattle.std.specs.List.{list_any}
use Rattle.std.specs.Str.{bytes_eq}
use Rattle.std.proofs.lemmas.Bool.{both_ways, cond-true, cond-false, or_right}
use Rattle.std.proofs.lemmas.List.Elements.{All-push}
use Rattle.std.proofs.lemmas.List.Folds.{list_any-append}
use Rattle.std.proofs.lemmas.Slice.Eq.{bytes_eq-Decides}
use Rattle.elf_format.specs.declared.constants.TheConstants.{DT_NEEDED, DT_RUNPATH}
use Rattle.elf_image.specs.Dynamic.{Auto, Entry, Integer, Text}
use Rattle.elf_image.specs.Image.{entry_tag}
use Rattle.elf_image.specs.Options.{first_there}
use Rattle.elf_edits.specs.Edit.{edited_entries}
use Rattle.elf_edits.specs.Entries.{changed_where, has_tag, is_run_path, needed_names, needs_one_of, text_if, with_text, with_text_changed, with_text_set}
use Rattle.elf_edits.specs.Laws.{MapsAtOnce, OthersStayInOrder, RunPathsAreSet, swap_of}
use Rattle.elf_edits.specs.Texts.{value_of}
use Rattle.elf_edits.proofs.ListLaws.{All-map_each, All-of_none, by_test, filter-filter, flat_map-changed, list_any-map, none_kept}

-- ## The run path is set

module _ (text : List ℕ) where
  set_if : Entry → Entry
  set_if e = if is_run_path e then with_text text e else e

  -- the entry as it should be, if it has a run path
  HasText : Entry → Type 0
  HasText e = is_run_path e ≡ true → e ≡ Text (entry_tag e) text

  set_kind : (e : Entry) → is_run_path (set_if e) ≡ is_run_path e
  unfolding set_if
  set_kind e = by_test (is_run_path e)
      (λ holds. ap is_run_path (cond-true (is_run_path e) (with_text text e) e holds))
      (λ fails. ap is_run_path (cond-false (is_run_path e) (with_text text e) e fails))

  set_text : (e : Entry) → HasText (set_if e)
  unfolding set_if HasText
  set_text e = by_test (is_run_path e)
      (λ holds. subst (λ (x : Entry). HasText x) (sym (cond-true (is_run_path e) (with_text text e) e holds)) (λ _. refl))
      (λ fails. subst (λ (x : Entry). HasText x) (sym (cond-false (is_run_path e) (with_text text e) e fails)) (λ h. absurd (both_ways (is_run_path e) fails h)))

  last_entry : Entry
  last_entry = Text DT_RUNPATH text

  set_there : (es : List Entry) → list_any is_run_path (with_text_set is_run_path DT_RUNPATH text es) ≡ true
  unfolding set_if last_entry
  set_there es = by_test (list_any is_run_path es)
      (λ some. ap (list_any is_run_path) (cond-true (list_any is_run_path es) (map set_if es) (es ++ last_entry ∷ []) some) ∙ list_any-map is_run_path set_if set_kind es ∙ some)
      (λ none. ap (list_any is_run_path) (cond-false (list_any is_run_path es) (map set_if es) (es ++ last_entry ∷ []) none) ∙ list_any-append is_run_path es (last_entry ∷ []) ∙ or_right (list_any is_run_path es) true refl)

  set_every : (es : List Entry) → All HasText (with_text_set is_run_path DT_RUNPATH text es)
  unfolding set_if last_entry HasText
  set_every es = by_test (list_any is_run_path es)
      (λ some. subst (λ (l : List Entry). All HasText l) (sym (cond-true (list_any is_run_path es) (map set_if es) (es ++ last_entry ∷ []) some)) (All-map_each HasText set_if set_text es))
      (λ none. subst (λ (l : List Entry). All HasText l) (sym (cond-false (list_any is_run_path es) (map set_if es) (es ++ last_entry ∷ []) none))
      (All-push HasText es last_entry (All-of_none is_run_path (λ e. e ≡ Text (entry_tag e) text) es none) (λ _. refl)))

pub run_paths_are_set : RunPathsAreSet
unfolding edited_entries HasText
run_paths_are_set = record {
  there = λ machine text es. set_there text es;
  every = λ machine text es. set_every text es;
}

-- ## Needed libraries

pub others_stay_in_order : OthersStayInOrder
unfolding edited_entries
others_stay_in_order = record {
  none_left = λ machine names es. none_kept (needs_one_of names) es;
  order = λ machine names es. filter-filter (λ e. not (needs_one_of names e)) es;
}

module _ (change : List ℕ → List ℕ) where
  rename_if : Entry → Entry
  rename_if e = if has_tag DT_NEEDED e then with_text_changed change e else e

  renamed : (e : Entry) → text_if (has_tag DT_NEEDED) (rename_if e) ≡ map change (text_if (has_tag DT_NEEDED) e)
  unfolding rename_if
  renamed (Auto tag) = by_test (has_tag DT_NEEDED (Auto tag))
      (λ holds. ap (text_if (has_tag DT_NEEDED)) (cond-true (has_tag DT_NEEDED (Auto tag)) (Auto tag) (Auto tag) holds))
      (λ fails. ap (text_if (has_tag DT_NEEDED)) (cond-false (has_tag DT_NEEDED (Auto tag)) (Auto tag) (Auto tag) fails))
  renamed (Integer tag value) = by_test (has_tag DT_NEEDED (Integer tag value))
      (λ holds. ap (text_if (has_tag DT_NEEDED)) (cond-true (has_tag DT_NEEDED (Integer tag value)) (Integer tag value) (Integer tag value) holds))
      (λ fails. ap (text_if (has_tag DT_NEEDED)) (cond-false (has_tag DT_NEEDED (Integer tag value)) (Integer tag value) (Integer tag value) fails))
  renamed (Text tag text) = by_test (has_tag DT_NEEDED (Text tag text))
      (λ holds.
      let whole : (if has_tag DT_NEEDED (Text tag text) then Text tag (change text) else Text tag text) ≡ Text tag (change text) = cond-true (has_tag DT_NEEDED (Text tag text)) (Text tag (change text)) (Text tag text) holds in
      ap (text_if (has_tag DT_NEEDED)) whole ∙ cond-true (has_tag DT_NEEDED (Text tag text)) (change text ∷ []) [] holds
      ∙ sym (ap (map change) (cond-true (has_tag DT_NEEDED (Text tag text)) (text ∷ []) [] holds)))
      (λ fails.
      let whole : (if has_tag DT_NEEDED (Text tag text) then Text tag (change text) else Text tag text) ≡ Text tag text = cond-false (has_tag DT_NEEDED (Text tag text)) (Text tag (change text)) (Text tag text) fails in
      ap (text_if (has_tag DT_NEEDED)) whole ∙ cond-false (has_tag DT_NEEDED (Text tag text)) (text ∷ []) [] fails
      ∙ sym (ap (map change) (cond-false (has_tag DT_NEEDED (Text tag text)) (text ∷ []) [] fails)))

  all_renamed : (es : List Entry) → needed_names (changed_where (has_tag DT_NEEDED) (with_text_changed change) es) ≡ map change (needed_names es)
  unfolding rename_if
  all_renamed es = flat_map-changed (text_if (has_tag DT_NEEDED)) rename_if change renamed es

same_text : (xs ys : List ℕ) → bytes_eq xs ys ≡ true → xs ≡ ys
same_text xs ys h = (bytes_eq-Decides xs ys).0 h

itself : (xs : List ℕ) → bytes_eq xs xs ≡ true
itself xs = (bytes_eq-Decides xs xs).1 refl

if_some : (b : Bool) (text : List ℕ) → b ≡ true → (if b then Some text else None) ≡ Some text
if_some b text h = cond-true b (Some text) None h

if_none : (b : Bool) (text : List ℕ) → b ≡ false → (if b then Some text else None) ≡ None
if_none b text h = cond-false b (Some text) None h

module _ (f g : List ℕ) where
  -- what a text is swapped for: the second pair is asked first
  swapped_for : List ℕ → Option (List ℕ)
  swapped_for name = first_there (if bytes_eq name g then Some f else None) (if bytes_eq name f then Some g else None)

  of_second : (name : List ℕ) → bytes_eq name g ≡ true → swapped_for name ≡ Some f
  unfolding swapped_for
  of_second name h = ap (λ o. first_there o (if bytes_eq name f then Some g else None)) (if_some (bytes_eq name g) f h)

  of_first : (name : List ℕ) → bytes_eq name g ≡ false → bytes_eq name f ≡ true → swapped_for name ≡ Some g
  unfolding swapped_for
  of_first name h k = ap (λ o. first_there o (if bytes_eq name f then Some g else None)) (if_none (bytes_eq name g) f h) ∙ if_some (bytes_eq name f) g k

  of_other : (name : List ℕ) → bytes_eq name g ≡ false → bytes_eq name f ≡ false → swapped_for name ≡ None
  unfolding swapped_for
  of_other name h k = ap (λ o. first_there o (if bytes_eq name f then Some g else None)) (if_none (bytes_eq name g) f h) ∙ if_none (bytes_eq name f) g k

  swapped_first : swapped_for f ≡ Some g
  swapped_first = by_test (bytes_eq f g) (λ holds. of_second f holds ∙ ap Some (same_text f g holds)) (λ fails. of_first f fails (itself f))

  swapped_second : swapped_for g ≡ Some f
  swapped_second = of_second g (itself g)

  swap_name : List ℕ → List ℕ
  swap_name name = unwrap_or (swapped_for name) name

  swapped_to : (name to : List ℕ) → swapped_for name ≡ Some to → swap_name name ≡ to
  unfolding swap_name
  swapped_to name to h = ap (λ o. unwrap_or o name) h

  swapped_back : (name : List ℕ) → swap_name (swap_name name) ≡ name
  unfolding swap_name
  swapped_back name = by_test (bytes_eq name g)
      (λ holds. ap swap_name (swapped_to name f (of_second name holds)) ∙ swapped_to f g swapped_first ∙ sym (same_text name g holds))
      (λ fails. by_test (bytes_eq name f)
      (λ first. ap swap_name (swapped_to name g (of_first name fails first)) ∙ swapped_to g f swapped_second ∙ sym (same_text name f first))
      (λ other. ap swap_name (kept fails other) ∙ kept fails other))
    where
      kept : bytes_eq name g ≡ false → bytes_eq name f ≡ false → swap_name name ≡ name
      kept h k = ap (λ o. unwrap_or o name) (of_other name h k)

  all_swapped_back : (names : List (List ℕ)) → map swap_name (map swap_name names) ≡ names
  all_swapped_back [] = refl
  all_swapped_back (name ∷ names) = ap (λ n. n ∷ map swap_name (map swap_name names)) (swapped_back name) ∙ ap (λ l. name ∷ l) (all_swapped_back names)

-- a name that is swapped twice
pub name_swapped_back : (f g name : List ℕ) → let swap = λ (n : List ℕ). unwrap_or (value_of (swap_of f g) n) n in swap (swap name) ≡ name
unfolding swapped_for swap_name
name_swapped_back f g name = swapped_back f g name

pub maps_at_once : MapsAtOnce
unfolding edited_entries swapped_for swap_name
maps_at_once = record {
  all = λ machine pairs es. all_renamed (λ name. unwrap_or (value_of pairs name) name) es;
  first_swapped = λ f g. swapped_first f g;
  second_swapped = λ f g. swapped_second f g;
  swapped_back = λ machine f g es.
      all_renamed (swap_name f g) (changed_where (has_tag DT_NEEDED) (with_text_changed (swap_name f g)) es)
      ∙ ap (map (swap_name f g)) (all_renamed (swap_name f g) es) ∙ all_swapped_back f g (needed_names es);
}
