-- What each edit does to the dynamic list: it keeps the tags of tables, leaves a list again, and leaves the list as it was
-- where it touches nothing; and which edits drop entries by their tags.
use Rattle.std.proofs.Common.{◌≡◌, ℕ, Bool, true, false, not, ◌||◌, List, [], ◌∷◌, ◌++◌, filter, map, refl, sym, ap, subst, ◌∙◌, Some, None, inl, inr, arith}
use Rattle.std.specs.Prelude.{◌==◌, All, codes, unwrap_or}
use Rattle.std.specs.List.{AllPass, flat_map, list_any}
use Rattle.std.proofs.lemmas.Bool.{both_ways, cond-true, cond-false, not-false, or_cases, or_parts}
use Rattle.std.proofs.lemmas.List.Elements.{All-cons, All-nil}
use Rattle.std.proofs.Math.Path.{fun_ext}
use Rattle.elf_format.specs.declared.constants.TheConstants.{DT_DEBUG, DT_FLAGS_1, DT_NEEDED, DT_RPATH, DT_RUNPATH, DT_SONAME, DT_SYMTAB, DT_VERDEF, DT_VERDEFNUM, DT_VERNEED, DT_VERNEEDNUM, DT_VERSYM}
use Rattle.elf_image.specs.Dynamic.{Auto, Entry, Integer, Text}
use Rattle.elf_image.specs.DynamicList.{IsListed, is_free_tag, table_tag}
use Rattle.elf_image.specs.Image.{lists_tag}
use Rattle.elf_edits.specs.declared.constants.TheConstants.{DF_1_NODEFLIB}
use Rattle.elf_edits.specs.Cause.{Facts, interpreter_missing, own_cause}
use Rattle.elf_edits.specs.Edit.{AddDebugTag, AddNeeded, AddRpath, RemoveNeeded, RemoveRpath, Edit, NoDefaultLib, ReplaceLibrary, ReplaceNeeded, SetRpath, SetSoname, ShrinkRpath, ForceRpath, ForceRunpath, dropped_tags, edited_entries, is_of_more, is_of_symbols, task_of, texts_of, touches_entries}
use Rattle.elf_edits.specs.Edited.{touches_rest}
use Rattle.elf_edits.specs.Entries.{changed_where, directories_removed, has_one_of, has_tag, is_run_path, needs_one_of, not_needed_yet, search_of, text_if, with_bits, with_each_added, with_tag, with_text, with_text_changed, without_tags}
use Rattle.elf_edits.specs.Shrunk.{shrunk_text}
use Rattle.elf_edits.specs.Texts.{has_some, holds_nul, is_among, joined_by_colons, value_of}
use Rattle.elf_edits.proofs.ListLaws.{by_test, changed_where_none, list_any-filter}
use Rattle.elf_edits.proofs.ListedLaws.{IsForNumber, IsForText, ListsAgain, TakesPlace, added_whole, as_it_was, bits_set, changed_again, first_again, has_tag_is, joined_whole, kept_again, last_again, listed_number, listed_text, none_kept_of, of_no_table, one_of_two, shrunk_whole, tag_set, text_changed, text_set, values_whole}
use Rattle.elf_edits.proofs.TagLaws.{added_last, changed_bits, changed_tag, changed_text, either_list, kept_tag, not_it}
use Rattle.elf_edits.proofs.UntouchedLaws.{all_kept, none_replaced, none_shrunk, none_there, not_false_is, true_not_false}

-- ## Tags that no edit touches

pub record IsUntouched (tag : ℕ) : Type 0 where
  pub debug : (DT_DEBUG == tag) ≡ false
  pub needed : (DT_NEEDED == tag) ≡ false
  pub rpath : (DT_RPATH == tag) ≡ false
  pub runpath : (DT_RUNPATH == tag) ≡ false
  pub soname : (DT_SONAME == tag) ≡ false
  pub flags : (DT_FLAGS_1 == tag) ≡ false

pub symtab_untouched : IsUntouched DT_SYMTAB
symtab_untouched = record { debug = refl; needed = refl; rpath = refl; runpath = refl; soname = refl; flags = refl }

pub versym_untouched : IsUntouched DT_VERSYM
versym_untouched = record { debug = refl; needed = refl; rpath = refl; runpath = refl; soname = refl; flags = refl }

pub verdef_untouched : IsUntouched DT_VERDEF
verdef_untouched = record { debug = refl; needed = refl; rpath = refl; runpath = refl; soname = refl; flags = refl }

pub verdefnum_untouched : IsUntouched DT_VERDEFNUM
verdefnum_untouched = record { debug = refl; needed = refl; rpath = refl; runpath = refl; soname = refl; flags = refl }

pub verneed_untouched : IsUntouched DT_VERNEED
verneed_untouched = record { debug = refl; needed = refl; rpath = refl; runpath = refl; soname = refl; flags = refl }

pub verneednum_untouched : IsUntouched DT_VERNEEDNUM
verneednum_untouched = record { debug = refl; needed = refl; rpath = refl; runpath = refl; soname = refl; flags = refl }

module _ (tag : ℕ) (is : IsUntouched tag) where
  run_path_not_it : (e : Entry) → not (is_run_path e) ≡ false → has_tag tag e ≡ false
  run_path_not_it e h = elim (or_cases (has_tag DT_RPATH e) (has_tag DT_RUNPATH e) (not-false (is_run_path e) h)) [
    | inl rpath ↦ not_it tag DT_RPATH e is.rpath rpath
    | inr runpath ↦ not_it tag DT_RUNPATH e is.runpath runpath
  ]

  needed_not_it : (names : List (List ℕ)) (e : Entry) → not (needs_one_of names e) ≡ false → has_tag tag e ≡ false
  needed_not_it names (Auto t) h = absurd (cc)
  needed_not_it names (Integer t value) h = absurd (cc)
  needed_not_it names (Text t text) h = by_test (has_tag DT_NEEDED (Text t text))
      (λ holds. not_it tag DT_NEEDED (Text t text) is.needed holds)
      (λ fails. absurd (both_ways (not (needs_one_of names (Text t text))) h (ap (λ (l : List (List ℕ)). not (list_any (is_among names) l)) (cond-false (has_tag DT_NEEDED (Text t text)) (text ∷ []) [] fails))))

  put_before : (names : List (List ℕ)) (es : List Entry) → lists_tag tag (map (Text DT_NEEDED) names ++ es) ≡ lists_tag tag es
  put_before [] es = refl
  put_before (name ∷ names) es = ap (λ b. b || lists_tag tag (map (Text DT_NEEDED) names ++ es)) is.needed ∙ put_before names es

  pub tags_kept : (machine : ℕ) (edit : Edit) (es : List Entry) → lists_tag tag (edited_entries machine edit es) ≡ lists_tag tag es
  unfolding edited_entries
  tags_kept machine AddDebugTag es = either_list tag (lists_tag DT_DEBUG es) es es (es ++ Integer DT_DEBUG 0 ∷ []) refl (added_last tag es (Integer DT_DEBUG 0) is.debug)
  tags_kept machine RemoveRpath es = list_any-filter (has_tag tag) (λ e. not (is_run_path e)) run_path_not_it es
  tags_kept machine (SetRpath text) es = either_list tag (list_any is_run_path es) es (changed_where is_run_path (with_text text) es) (es ++ Text DT_RUNPATH text ∷ []) (kept_tag tag is_run_path (with_text text) (λ e _. refl) es) (added_last tag es (Text DT_RUNPATH text) is.runpath)
  tags_kept machine (AddRpath texts) es = either_list tag (list_any is_run_path es) es (changed_where is_run_path (with_text_changed (with_each_added texts)) es) (es ++ Text DT_RUNPATH (joined_by_colons texts) ∷ []) (kept_tag tag is_run_path (with_text_changed (with_each_added texts)) (λ e _. changed_text tag (with_each_added texts) e) es) (added_last tag es (Text DT_RUNPATH (joined_by_colons texts)) is.runpath)
  tags_kept machine ForceRunpath es = kept_tag tag (has_tag DT_RPATH) (with_tag DT_RUNPATH) (λ e h. changed_tag tag DT_RPATH DT_RUNPATH e is.rpath is.runpath h) es
  tags_kept machine ForceRpath es = kept_tag tag (has_tag DT_RUNPATH) (with_tag DT_RPATH) (λ e h. changed_tag tag DT_RUNPATH DT_RPATH e is.runpath is.rpath h) es
  tags_kept machine (RemoveNeeded names) es = list_any-filter (has_tag tag) (λ e. not (needs_one_of names e)) (needed_not_it names) es
  tags_kept machine (ReplaceNeeded pairs) es = kept_tag tag (has_tag DT_NEEDED) (with_text_changed (λ name. unwrap_or (value_of pairs name) name)) (λ e _. changed_text tag (λ name. unwrap_or (value_of pairs name) name) e) es
  tags_kept machine (ReplaceLibrary pairs) es = kept_tag tag (has_tag DT_NEEDED) (with_text_changed (λ name. unwrap_or (value_of pairs name) name)) (λ e _. changed_text tag (λ name. unwrap_or (value_of pairs name) name) e) es
  tags_kept machine (AddNeeded names) es = put_before (not_needed_yet names es) es
  tags_kept machine (SetSoname text) es = either_list tag (lists_tag DT_SONAME es) es (changed_where (has_tag DT_SONAME) (with_text text) es) (es ++ Text DT_SONAME text ∷ []) (kept_tag tag (has_tag DT_SONAME) (with_text text) (λ e _. refl) es) (added_last tag es (Text DT_SONAME text) is.soname)
  tags_kept machine NoDefaultLib es = either_list tag (lists_tag DT_FLAGS_1 es) es (changed_where (has_tag DT_FLAGS_1) (with_bits DF_1_NODEFLIB) es) (es ++ Integer DT_FLAGS_1 DF_1_NODEFLIB ∷ []) (kept_tag tag (has_tag DT_FLAGS_1) (with_bits DF_1_NODEFLIB) (λ e _. changed_bits tag DF_1_NODEFLIB e) es) (added_last tag es (Integer DT_FLAGS_1 DF_1_NODEFLIB) is.flags)
  tags_kept machine (ShrinkRpath prefixes answers) es = kept_tag tag is_run_path (with_text_changed (shrunk_text (search_of machine prefixes answers es))) (λ e _. changed_text tag (shrunk_text (search_of machine prefixes answers es)) e) es
  tags_kept machine _ es = refl

-- ## Tags that edits write

for_rpath : IsForText DT_RPATH
for_rpath = record { text = refl; table = refl; number = refl; some = λ h. omega arith }

for_runpath : IsForText DT_RUNPATH
for_runpath = record { text = refl; table = refl; number = refl; some = λ h. omega arith }

for_soname : IsForText DT_SONAME
for_soname = record { text = refl; table = refl; number = refl; some = λ h. omega arith }

for_debug : IsForNumber DT_DEBUG
for_debug = record { number = refl; some = λ h. omega arith }

for_flags : IsForNumber DT_FLAGS_1
for_flags = record { number = refl; some = λ h. omega arith }

-- ## Entries that may stand

-- a run path has one of two tags
with_run_path_set : (text : List ℕ) → holds_nul text ≡ false → (e : Entry) → is_run_path e ≡ true → IsListed e → TakesPlace e (with_text text e)
with_run_path_set text whole e h listed = elim (or_cases (has_tag DT_RPATH e) (has_tag DT_RUNPATH e) h) [
  | inl rpath ↦
      let same = has_tag_is DT_RPATH e rpath in
      subst (λ (t : ℕ). TakesPlace e (Text t text)) (sym same) (text_set DT_RPATH for_rpath DT_RPATH text for_rpath whole e listed same)
  | inr runpath ↦
      let same = has_tag_is DT_RUNPATH e runpath in
      subst (λ (t : ℕ). TakesPlace e (Text t text)) (sym same) (text_set DT_RUNPATH for_runpath DT_RUNPATH text for_runpath whole e listed same)
]

with_soname_set : (text : List ℕ) → holds_nul text ≡ false → (e : Entry) → has_tag DT_SONAME e ≡ true → IsListed e → TakesPlace e (with_text text e)
with_soname_set text whole e h listed =
    let same = has_tag_is DT_SONAME e h in
    subst (λ (t : ℕ). TakesPlace e (Text t text)) (sym same) (text_set DT_SONAME for_soname DT_SONAME text for_soname whole e listed same)

-- an entry that is needed has no table
needed_no_table : (names : List (List ℕ)) (e : Entry) → not (needs_one_of names e) ≡ false → IsListed e → table_tag e ≡ None
needed_no_table names (Auto t) h listed = cc
needed_no_table names (Integer t value) h listed = refl
needed_no_table names (Text t text) h listed = refl

run_path_no_table : (e : Entry) → not (is_run_path e) ≡ false → IsListed e → table_tag e ≡ None
run_path_no_table e h listed = elim (or_cases (has_tag DT_RPATH e) (has_tag DT_RUNPATH e) (not-false (is_run_path e) h)) [
  | inl rpath ↦ of_no_table DT_RPATH for_rpath e listed (has_tag_is DT_RPATH e rpath)
  | inr runpath ↦ of_no_table DT_RUNPATH for_runpath e listed (has_tag_is DT_RUNPATH e runpath)
]

one_whole : (text : List ℕ) → list_any holds_nul (text ∷ []) ≡ false → holds_nul text ≡ false
one_whole text h = (or_parts (holds_nul text) false h).0

pub lists_again : (machine : ℕ) (edit : Edit) (es : List Entry) → list_any holds_nul (texts_of edit) ≡ false → All IsListed es → ListsAgain es (edited_entries machine edit es)
unfolding edited_entries
lists_again machine AddDebugTag es whole all = one_of_two (lists_tag DT_DEBUG es) es es (es ++ Integer DT_DEBUG 0 ∷ []) (as_it_was es all) (last_again es (Integer DT_DEBUG 0) all (listed_number DT_DEBUG 0 for_debug) refl)
lists_again machine RemoveRpath es whole all = kept_again (λ e. not (is_run_path e)) run_path_no_table es all
lists_again machine (SetRpath text) es whole all =
    let none = one_whole text whole in
    one_of_two (list_any is_run_path es) es (changed_where is_run_path (with_text text) es) (es ++ Text DT_RUNPATH text ∷ [])
    (changed_again is_run_path (with_text text) (with_run_path_set text none) es all) (last_again es (Text DT_RUNPATH text) all (listed_text DT_RUNPATH text for_runpath none) refl)
lists_again machine (AddRpath texts) es whole all =
    one_of_two (list_any is_run_path es) es (changed_where is_run_path (with_text_changed (with_each_added texts)) es) (es ++ Text DT_RUNPATH (joined_by_colons texts) ∷ [])
    (changed_again is_run_path (with_text_changed (with_each_added texts)) (λ e h listed. text_changed (with_each_added texts) (added_whole texts whole) e listed) es all)
    (last_again es (Text DT_RUNPATH (joined_by_colons texts)) all (listed_text DT_RUNPATH (joined_by_colons texts) for_runpath (joined_whole texts whole)) refl)
lists_again machine ForceRunpath es whole all = changed_again (has_tag DT_RPATH) (with_tag DT_RUNPATH) (λ e h listed. tag_set DT_RPATH for_rpath DT_RUNPATH for_runpath e listed (has_tag_is DT_RPATH e h)) es all
lists_again machine ForceRpath es whole all = changed_again (has_tag DT_RUNPATH) (with_tag DT_RPATH) (λ e h listed. tag_set DT_RUNPATH for_runpath DT_RPATH for_rpath e listed (has_tag_is DT_RUNPATH e h)) es all
lists_again machine (RemoveNeeded names) es whole all = kept_again (λ e. not (needs_one_of names e)) (needed_no_table names) es all
lists_again machine (ReplaceNeeded pairs) es whole all =
    changed_again (has_tag DT_NEEDED) (with_text_changed (λ name. unwrap_or (value_of pairs name) name)) (λ e h listed. text_changed (λ name. unwrap_or (value_of pairs name) name) (values_whole pairs whole) e listed) es all
lists_again machine (ReplaceLibrary pairs) es whole all =
    changed_again (has_tag DT_NEEDED) (with_text_changed (λ name. unwrap_or (value_of pairs name) name)) (λ e h listed. text_changed (λ name. unwrap_or (value_of pairs name) name) (values_whole pairs whole) e listed) es all
lists_again machine (AddNeeded names) es whole all = first_again (not_needed_yet names es) (none_kept_of holds_nul (λ name. not (is_among (flat_map (text_if (has_tag DT_NEEDED)) es) name)) names whole) es all
lists_again machine (SetSoname text) es whole all =
    let none = one_whole text whole in
    one_of_two (list_any (has_tag DT_SONAME) es) es (changed_where (has_tag DT_SONAME) (with_text text) es) (es ++ Text DT_SONAME text ∷ [])
    (changed_again (has_tag DT_SONAME) (with_text text) (with_soname_set text none) es all) (last_again es (Text DT_SONAME text) all (listed_text DT_SONAME text for_soname none) refl)
lists_again machine NoDefaultLib es whole all =
    one_of_two (lists_tag DT_FLAGS_1 es) es (changed_where (has_tag DT_FLAGS_1) (with_bits DF_1_NODEFLIB) es) (es ++ Integer DT_FLAGS_1 DF_1_NODEFLIB ∷ [])
    (changed_again (has_tag DT_FLAGS_1) (with_bits DF_1_NODEFLIB) (λ e h listed. bits_set DF_1_NODEFLIB e listed) es all) (last_again es (Integer DT_FLAGS_1 DF_1_NODEFLIB) all (listed_number DT_FLAGS_1 DF_1_NODEFLIB for_flags) refl)
lists_again machine (ShrinkRpath prefixes answers) es whole all =
    changed_again is_run_path (with_text_changed (shrunk_text (search_of machine prefixes answers es))) (λ e h listed. text_changed (shrunk_text (search_of machine prefixes answers es)) (shrunk_whole (search_of machine prefixes answers es)) e listed) es all
lists_again machine _ es whole all = as_it_was es all

-- ## An edit that touches no entry

pub untouched : (machine : ℕ) (edit : Edit) (es : List Entry) → touches_entries machine edit es ≡ false → edited_entries machine edit es ≡ es
unfolding touches_entries edited_entries
untouched machine AddDebugTag es h = cond-true (lists_tag DT_DEBUG es) es (es ++ Integer DT_DEBUG 0 ∷ []) (not_false_is (lists_tag DT_DEBUG es) h)
untouched machine RemoveRpath es h = all_kept is_run_path es h
untouched machine (SetRpath text) es h = true_not_false h
untouched machine (AddRpath texts) es h = true_not_false h
untouched machine ForceRunpath es h = changed_where_none (has_tag DT_RPATH) (with_tag DT_RUNPATH) es h
untouched machine ForceRpath es h = changed_where_none (has_tag DT_RUNPATH) (with_tag DT_RPATH) es h
untouched machine (RemoveNeeded names) es h = all_kept (needs_one_of names) es h
untouched machine (ReplaceNeeded pairs) es h = none_replaced pairs es h
untouched machine (ReplaceLibrary pairs) es h = none_replaced pairs es h
untouched machine (AddNeeded names) es h = ap (λ (l : List (List ℕ)). map (Text DT_NEEDED) l ++ es) (none_there (not_needed_yet names es) h)
untouched machine (SetSoname text) es h = true_not_false h
untouched machine NoDefaultLib es h = true_not_false h
untouched machine (ShrinkRpath prefixes answers) es h = none_shrunk (search_of machine prefixes answers es) es (none_there (directories_removed (search_of machine prefixes answers es) es) h)
untouched machine _ es h = refl

-- ## An edit that drops entries by their tags

-- an edit that does this and nothing else, with the words of its refusal: it has no texts, and no cause of its own
pub record DropsTags (edit : Edit) (task : List ℕ) : Type 0 where
  pub is_task : task_of edit ≡ Some task
  pub texts : texts_of edit ≡ []
  pub no_interpreter : (facts : Facts) → interpreter_missing edit facts ≡ None
  pub no_own : (facts : Facts) → own_cause edit facts ≡ None
  pub of_list : touches_rest edit ≡ false
  pub no_symbols : is_of_symbols edit ≡ false
  pub no_more : is_of_more edit ≡ false
  pub free : AllPass is_free_tag (dropped_tags edit)
  pub entries : (machine : ℕ) (es : List Entry) → edited_entries machine edit es ≡ without_tags (dropped_tags edit) es
  pub touched : (machine : ℕ) (es : List Entry) → touches_entries machine edit es ≡ list_any (has_one_of (dropped_tags edit)) es

or_false : (b : Bool) → (b || false) ≡ b
or_false true = refl
or_false false = refl

one_of_run_paths : (e : Entry) → is_run_path e ≡ has_one_of (DT_RPATH ∷ DT_RUNPATH ∷ []) e
one_of_run_paths e = ap (λ b. has_tag DT_RPATH e || b) (sym (or_false (has_tag DT_RUNPATH e)))

free_tags : AllPass is_free_tag (DT_RPATH ∷ DT_RUNPATH ∷ [])
free_tags = All-cons (λ tag. is_free_tag tag ≡ true) DT_RPATH (DT_RUNPATH ∷ []) refl (All-cons (λ tag. is_free_tag tag ≡ true) DT_RUNPATH [] refl (All-nil (λ tag. is_free_tag tag ≡ true)))

pub drops_tags : (edit : Edit) → has_some (dropped_tags edit) ≡ true → (task : List ℕ) × DropsTags edit task
unfolding edited_entries touches_entries
drops_tags RemoveRpath some = (
  codes "delete runpath",
  record {
    is_task = refl;
    texts = refl;
    no_interpreter = λ facts. refl;
    no_own = λ facts. refl;
    of_list = refl;
    no_symbols = refl;
    no_more = refl;
    free = free_tags;
    entries = λ machine es. ap (λ (f : Entry → Bool). filter (λ e. not (f e)) es) (fun_ext one_of_run_paths);
    touched = λ machine es. ap (λ (f : Entry → Bool). list_any f es) (fun_ext one_of_run_paths);
  },
)
drops_tags _ some = absurd (cc)
