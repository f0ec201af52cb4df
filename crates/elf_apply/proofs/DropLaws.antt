-- Edits that drop entries by their tags, one tag after the other.
use Rattle.std.proofs.Common.{◌≡◌, ℕ, ◌+◌, ◌<◌, ◌≤◌, Bool, true, false, not, ◌||◌, List, [], ◌∷◌, length, drop, get_or, refl, sym, ap, ◌∙◌, Option, Some, None, option_map, add-one, drop-cons}
use Rattle.std.specs.Prelude.{◌==◌, unwrap_or}
use Rattle.std.specs.List.{list_any}
use Rattle.std.proofs.lemmas.Bool.{cond-true, cond-false, or_parts}
use Rattle.std.proofs.lemmas.List.{drop_all}
use Rattle.elf_format.specs.declared.constants.TheConstants.{EM_MIPS}
use Rattle.elf_image.specs.Dynamic.{Entry}
use Rattle.elf_image.specs.DynamicList.{without_tag}
use Rattle.elf_image.specs.Image.{Image, lists_tag}
use Rattle.elf_image.specs.Options.{first_there}
use Rattle.elf_edits.specs.Cause.{MipsImage, NoDynamic, NulInText, cause, cause_if, facts_of, first_cause, interpreter_missing, list_missing, own_cause}
use Rattle.elf_edits.specs.Edit.{Edit, dropped_tags, edited_entries, texts_of, touches_entries}
use Rattle.elf_edits.specs.Edited.{edited_image, is_list_with}
use Rattle.elf_edits.specs.Entries.{has_one_of, has_tag, without_tags}
use Rattle.elf_edits.specs.Texts.{holds_nul}
use Rattle.elf_edits.proofs.ForCallers.{DropsTags}
use Rattle.elf_apply.specs.Drafted.{with_tag_dropped, with_tags_dropped}
use Rattle.elf_apply.proofs.DraftLaws.{by_test, or_false, or_true, rest_stays}
use Rattle.elf_apply.proofs.TakenLaws.{IsPlain, or_nothing}

-- ## Lists

none_pass : (es : List Entry) → list_any (has_one_of []) es ≡ false
none_pass [] = refl
none_pass (e ∷ es) = none_pass es

all_stay : (es : List Entry) → without_tags [] es ≡ es
all_stay [] = refl
all_stay (e ∷ es) = ap (λ l. e ∷ l) (all_stay es)

-- the entries of a first tag go, and then those of the other tags
dropped_in_turn : (tag : ℕ) (tags : List ℕ) (es : List Entry) → without_tags tags (without_tag tag es) ≡ without_tags (tag ∷ tags) es
dropped_in_turn tag tags [] = refl
dropped_in_turn tag tags (e ∷ es) = by_test (has_tag tag e)
    (λ holds.
    ap (without_tags tags) (cond-false (not (has_tag tag e)) (e ∷ without_tag tag es) (without_tag tag es) (ap not holds))
    ∙ dropped_in_turn tag tags es
    ∙ sym (cond-false (not (has_one_of (tag ∷ tags) e)) (e ∷ without_tags (tag ∷ tags) es) (without_tags (tag ∷ tags) es) (ap (λ b. not (b || has_one_of tags e)) holds)))
    (λ other.
    ap (without_tags tags) (cond-true (not (has_tag tag e)) (e ∷ without_tag tag es) (without_tag tag es) (ap not other))
    ∙ by_test (has_one_of tags e)
    (λ one.
    cond-false (not (has_one_of tags e)) (e ∷ without_tags tags (without_tag tag es)) (without_tags tags (without_tag tag es)) (ap not one)
    ∙ dropped_in_turn tag tags es
    ∙ sym (cond-false (not (has_one_of (tag ∷ tags) e)) (e ∷ without_tags (tag ∷ tags) es) (without_tags (tag ∷ tags) es) (ap (λ b. not (b || has_one_of tags e)) other ∙ ap not one)))
    (λ none.
    cond-true (not (has_one_of tags e)) (e ∷ without_tags tags (without_tag tag es)) (without_tags tags (without_tag tag es)) (ap not none)
    ∙ ap (λ l. e ∷ l) (dropped_in_turn tag tags es)
    ∙ sym (cond-true (not (has_one_of (tag ∷ tags) e)) (e ∷ without_tags (tag ∷ tags) es) (without_tags (tag ∷ tags) es) (ap (λ b. not (b || has_one_of tags e)) other ∙ ap not none))))

turned : (a b c : Bool) → (a || (b || c)) ≡ (b || (a || c))
turned true true c = refl
turned true false c = refl
turned false b c = refl

-- an entry of one of them was there
found_in_turn : (tag : ℕ) (tags : List ℕ) (es : List Entry) → (lists_tag tag es || list_any (has_one_of tags) (without_tag tag es)) ≡ list_any (has_one_of (tag ∷ tags)) es
found_in_turn tag tags [] = refl
found_in_turn tag tags (e ∷ es) = by_test (has_tag tag e)
    (λ holds.
    ap (λ b. (b || lists_tag tag es) || list_any (has_one_of tags) (without_tag tag (e ∷ es))) holds
    ∙ sym (ap (λ b. (b || has_one_of tags e) || list_any (has_one_of (tag ∷ tags)) es) holds))
    (λ other.
    ap (λ b. (b || lists_tag tag es) || list_any (has_one_of tags) (without_tag tag (e ∷ es))) other
    ∙ ap (λ (l : List Entry). lists_tag tag es || list_any (has_one_of tags) l) (cond-true (not (has_tag tag e)) (e ∷ without_tag tag es) (without_tag tag es) (ap not other))
    ∙ turned (lists_tag tag es) (has_one_of tags e) (list_any (has_one_of tags) (without_tag tag es))
    ∙ ap (λ b. has_one_of tags e || b) (found_in_turn tag tags es)
    ∙ sym (ap (λ b. (b || has_one_of tags e) || list_any (has_one_of (tag ∷ tags)) es) other))

-- ## Images

-- an image without the entries of some tags, changed where there was one
all_dropped : List ℕ → Image → Image
all_dropped tags image = record image {
  changed = image.changed || list_any (has_one_of tags) (unwrap_or image.entries []);
  entries = option_map (without_tags tags) image.entries;
}

with_both : Bool → Option (List Entry) → Image → Image
with_both changed entries image = record image { changed = changed; entries = entries }

nothing_dropped : (image : Image) → image ≡ all_dropped [] image
unfolding all_dropped with_both
nothing_dropped image = sym (
    ap (λ b. with_both b (option_map (without_tags []) image.entries) image) (ap (λ b. image.changed || b) (none_pass (unwrap_or image.entries [])) ∙ or_false image.changed)
    ∙ ap (λ o. with_both image.changed o image) (by_list image.entries))
  where
    by_list : (o : Option (List Entry)) → option_map (without_tags []) o ≡ o
    by_list None = refl
    by_list (Some es) = ap Some (all_stay es)

or_in_turn : (a b c : Bool) → ((a || b) || c) ≡ (a || (b || c))
or_in_turn true b c = refl
or_in_turn false b c = refl

first_dropped : (tag : ℕ) (tags : List ℕ) (image : Image) → all_dropped tags (with_tag_dropped tag image) ≡ all_dropped (tag ∷ tags) image
unfolding all_dropped with_both
first_dropped tag tags image =
    ap (λ b. with_both b (option_map (without_tags tags) (option_map (without_tag tag) image.entries)) image)
    (or_in_turn image.changed (lists_tag tag (unwrap_or image.entries [])) (list_any (has_one_of tags) (unwrap_or (option_map (without_tag tag) image.entries) []))
    ∙ ap (λ b. image.changed || b) (marked image.entries))
    ∙ ap (λ o. with_both (image.changed || list_any (has_one_of (tag ∷ tags)) (unwrap_or image.entries [])) o image) (by_list image.entries)
  where
    marked : (o : Option (List Entry)) → (lists_tag tag (unwrap_or o []) || list_any (has_one_of tags) (unwrap_or (option_map (without_tag tag) o) [])) ≡ list_any (has_one_of (tag ∷ tags)) (unwrap_or o [])
    marked None = refl
    marked (Some es) = found_in_turn tag tags es

    by_list : (o : Option (List Entry)) → option_map (without_tags tags) (option_map (without_tag tag) o) ≡ option_map (without_tags (tag ∷ tags)) o
    by_list None = refl
    by_list (Some es) = ap Some (dropped_in_turn tag tags es)

in_turn : (tags : List ℕ) (image : Image) → with_tags_dropped tags image ≡ all_dropped tags image
unfolding with_tags_dropped
in_turn [] image = nothing_dropped image
in_turn (tag ∷ tags) image = in_turn tags (with_tag_dropped tag image) ∙ first_dropped tag tags image

-- ## An edit that drops entries by their tags

-- tag by tag, an edit that drops entries is made
pub tags_dropped : (edit : Edit) (task : List ℕ) (old : Image) → DropsTags edit task → with_tags_dropped (dropped_tags edit) old ≡ edited_image edit old
unfolding all_dropped with_both
tags_dropped edit task old drops =
    let machine = old.header.e_machine in
    in_turn (dropped_tags edit) old
    ∙ ap (λ b. with_both (old.changed || b) (option_map (without_tags (dropped_tags edit)) old.entries) old) (marked machine old.entries)
    ∙ ap (λ o. with_both (old.changed || is_list_with (touches_entries machine edit) old.entries) o old) (by_list machine old.entries)
    ∙ sym (rest_stays edit drops.of_list drops.no_symbols drops.no_more old)
  where
    marked : (machine : ℕ) (o : Option (List Entry)) → list_any (has_one_of (dropped_tags edit)) (unwrap_or o []) ≡ is_list_with (touches_entries machine edit) o
    marked machine None = refl
    marked machine (Some es) = sym (drops.touched machine es)

    by_list : (machine : ℕ) (o : Option (List Entry)) → option_map (without_tags (dropped_tags edit)) o ≡ option_map (edited_entries machine edit) o
    by_list machine None = refl
    by_list machine (Some es) = ap Some (sym (drops.entries machine es))

-- an edit that drops entries has no cause of its own
pub drop_is_plain : (edit : Edit) (task : List ℕ) → DropsTags edit task → IsPlain edit task
unfolding cause first_cause
drop_is_plain edit task drops = record {
  is = λ old.
      let facts = facts_of old in
      let list = cause_if (not facts.has_list) (NoDynamic task) in
      ap (first_there (cause_if (facts.machine == EM_MIPS) MipsImage))
      (ap (λ o. first_there (list_missing o facts) (first_there (interpreter_missing edit facts) (first_there (cause_if (list_any holds_nul (texts_of edit)) NulInText) (own_cause edit facts)))) drops.is_task
      ∙ ap (λ o. first_there list (first_there o (first_there (cause_if (list_any holds_nul (texts_of edit)) NulInText) (own_cause edit facts)))) (drops.no_interpreter facts)
      ∙ ap (λ (l : List (List ℕ)). first_there list (first_there (cause_if (list_any holds_nul l) NulInText) (own_cause edit facts))) drops.texts
      ∙ ap (first_there list) (drops.no_own facts)
      ∙ or_nothing list);
}

-- ## In place

none_dropped : (tag : ℕ) (es : List Entry) → lists_tag tag es ≡ false → without_tag tag es ≡ es
none_dropped tag [] none = refl
none_dropped tag (e ∷ es) none =
    let parts = or_parts (has_tag tag e) (lists_tag tag es) none in
    cond-true (not (has_tag tag e)) (e ∷ without_tag tag es) (without_tag tag es) (ap not parts.0) ∙ ap (λ l. e ∷ l) (none_dropped tag es parts.1)

-- entries with a tag, and without
pub dropped_some : (tag : ℕ) (image : Image) (found : Bool) → found ≡ lists_tag tag (unwrap_or image.entries []) → found ≡ true → record image { changed = true; entries = option_map (without_tag tag) image.entries } ≡ with_tag_dropped tag image
dropped_some tag image found is holds = ap (λ b. record image { changed = b; entries = option_map (without_tag tag) image.entries }) (sym (or_true image.changed) ∙ ap (λ b. image.changed || b) (sym holds ∙ is))

pub dropped_none : (tag : ℕ) (image : Image) (found : Bool) → found ≡ lists_tag tag (unwrap_or image.entries []) → found ≡ false → image ≡ with_tag_dropped tag image
dropped_none tag image found is fails =
    sym (ap (λ b. record image { changed = image.changed || b; entries = option_map (without_tag tag) image.entries }) (sym is ∙ fails)
    ∙ ap (λ b. record image { changed = b; entries = option_map (without_tag tag) image.entries }) (or_false image.changed)
    ∙ ap (λ (o : Option (List Entry)). record image { changed = image.changed; entries = o }) (by_list image.entries (sym is ∙ fails)))
  where
    by_list : (o : Option (List Entry)) → lists_tag tag (unwrap_or o []) ≡ false → option_map (without_tag tag) o ≡ o
    by_list None h = refl
    by_list (Some es) h = ap Some (none_dropped tag es h)

-- the next tag
module _ (tags : List ℕ) (i : ℕ) where
  pub next_dropped : (d : ℕ) (image new all : Image) → i < length tags → new ≡ with_tag_dropped (get_or tags i d) image → with_tags_dropped (drop i tags) image ≡ all → with_tags_dropped (drop (i + 1) tags) new ≡ all
  unfolding with_tags_dropped
  next_dropped d image new all here put h = ap (with_tags_dropped (drop (i + 1) tags)) put ∙ sym (ap (λ (l : List ℕ). with_tags_dropped l image) next) ∙ h
    where
      next : drop i tags ≡ get_or tags i d ∷ drop (i + 1) tags
      next = rw (add-one, drop-cons tags i d)

  pub last_dropped : (image all : Image) → length tags ≤ i → with_tags_dropped (drop i tags) image ≡ all → image ≡ all
  unfolding with_tags_dropped
  last_dropped image all past h = sym (ap (λ (l : List ℕ). with_tags_dropped l image) (drop_all i tags past)) ∙ h
