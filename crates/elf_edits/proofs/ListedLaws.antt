-- A list some of whose entries were changed, dropped or added is a list again: its entries may stand before a DT_NULL,
-- and it names the same tables.
use Rattle.std.proofs.Common.{◌≡◌, ℕ, Bool, true, false, not, ◌||◌, List, [], ◌∷◌, ◌++◌, map, filter, refl, sym, ap, ◌∙◌, Option, Some, None, arith}
use Rattle.std.specs.Prelude.{if◌then◌else◌, ◌==◌, All, unwrap_or}
use Rattle.std.specs.List.{cons_option, flat_map, list_any}
use Rattle.std.specs.Str.{bytes_eq}
use Rattle.std.proofs.lemmas.Bool.{cond-true, cond-false, eqb-true, or_parts}
use Rattle.std.proofs.lemmas.List.{append-nil}
use Rattle.std.proofs.lemmas.List.Elements.{All-cons, All-head, All-tail, All-filter, All-push, filter_map-append}
use Rattle.std.proofs.lemmas.List.Folds.{list_any-append}
use Rattle.std.proofs.lemmas.List.Splits.{join_with_byte-slice_split}
use Rattle.elf_format.specs.declared.constants.TheConstants.{DT_NEEDED, DT_NULL}
use Rattle.elf_image.specs.Dynamic.{Auto, Entry, Integer, Text}
use Rattle.elf_image.specs.DynamicList.{IsListed, is_number_tag, is_table_tag, is_text_tag, table_tag, tables_of}
use Rattle.elf_image.specs.Image.{entry_tag}
use Rattle.elf_image.specs.Options.{first_there}
use Rattle.elf_edits.specs.declared.constants.TheConstants.{COLON}
use Rattle.elf_edits.specs.Entries.{changed_where, has_tag, with_bits, with_directories, with_each_added, with_tag, with_text_changed}
use Rattle.elf_edits.specs.Shrunk.{Search, shrunk_text, stays}
use Rattle.elf_edits.specs.Texts.{directories_in, holds_nul, joined_by_colons, value_of}
use Rattle.elf_edits.proofs.ListLaws.{by_test}

-- ## One entry

-- an entry that takes the place of another
pub record TakesPlace (old new : Entry) : Type 0 where
  pub listed : IsListed new
  pub table : table_tag new ≡ table_tag old

-- a tag that an edit writes
pub record IsForText (tag : ℕ) : Type 0 where
  pub text : is_text_tag tag ≡ true
  pub table : is_table_tag tag ≡ false
  pub number : is_number_tag tag ≡ false
  pub some : tag ≡ DT_NULL → ⊥

pub record IsForNumber (tag : ℕ) : Type 0 where
  pub number : is_number_tag tag ≡ true
  pub some : tag ≡ DT_NULL → ⊥

pub for_needed : IsForText DT_NEEDED
for_needed = record { text = refl; table = refl; number = refl; some = λ h. omega arith }

pub listed_text : (tag : ℕ) (text : List ℕ) → IsForText tag → holds_nul text ≡ false → IsListed (Text tag text)
listed_text tag text is whole = record { not_null = is.some; of_its_tag = is.text; whole = ap not whole }

pub listed_number : (tag value : ℕ) → IsForNumber tag → IsListed (Integer tag value)
listed_number tag value is = record { not_null = is.some; of_its_tag = is.number; whole = refl }

both_ways : (b : Bool) → b ≡ true → b ≡ false → ⊥
both_ways true h k = cc
both_ways false h k = cc

-- an entry with a tag of texts has a text
module _ (tag : ℕ) (is : IsForText tag) where
  no_table : (t : ℕ) → t ≡ tag → is_table_tag t ≡ true → ⊥
  no_table t same h = both_ways (is_table_tag t) h (ap is_table_tag same ∙ is.table)

  no_number : (t : ℕ) → t ≡ tag → is_number_tag t ≡ true → ⊥
  no_number t same h = both_ways (is_number_tag t) h (ap is_number_tag same ∙ is.number)

  pub text_set : (new : ℕ) (text : List ℕ) → IsForText new → holds_nul text ≡ false → (e : Entry) → IsListed e → entry_tag e ≡ tag → TakesPlace e (Text new text)
  text_set new text for whole (Auto t) listed same = absurd (no_table t same listed.of_its_tag)
  text_set new text for whole (Integer t value) listed same = absurd (no_number t same listed.of_its_tag)
  text_set new text for whole (Text t old) listed same = record { listed = listed_text new text for whole; table = refl }

  pub tag_set : (new : ℕ) → IsForText new → (e : Entry) → IsListed e → entry_tag e ≡ tag → TakesPlace e (with_tag new e)
  tag_set new for (Auto t) listed same = absurd (no_table t same listed.of_its_tag)
  tag_set new for (Integer t value) listed same = absurd (no_number t same listed.of_its_tag)
  tag_set new for (Text t old) listed same = record { listed = record { not_null = for.some; of_its_tag = for.text; whole = listed.whole }; table = refl }

not_both : (b : Bool) → not b ≡ true → b ≡ false
not_both true h = cc
not_both false h = refl

-- with its text changed
pub text_changed : (change : List ℕ → List ℕ) → ((text : List ℕ) → holds_nul text ≡ false → holds_nul (change text) ≡ false) → (e : Entry) → IsListed e → TakesPlace e (with_text_changed change e)
text_changed change whole (Auto t) listed = record { listed = listed; table = refl }
text_changed change whole (Integer t value) listed = record { listed = listed; table = refl }
text_changed change whole (Text t text) listed =
    record { listed = record { not_null = listed.not_null; of_its_tag = listed.of_its_tag; whole = ap not (whole text (not_both (holds_nul text) listed.whole)) }; table = refl }

pub bits_set : (bits : ℕ) (e : Entry) → IsListed e → TakesPlace e (with_bits bits e)
bits_set bits (Auto t) listed = record { listed = listed; table = refl }
bits_set bits (Integer t value) listed = record { listed = record { not_null = listed.not_null; of_its_tag = listed.of_its_tag; whole = refl }; table = refl }
bits_set bits (Text t text) listed = record { listed = listed; table = refl }

pub has_tag_is : (tag : ℕ) (e : Entry) → has_tag tag e ≡ true → entry_tag e ≡ tag
has_tag_is tag e h = eqb-true (entry_tag e) tag h

-- an entry with a tag of texts is of no table
pub of_no_table : (tag : ℕ) → IsForText tag → (e : Entry) → IsListed e → entry_tag e ≡ tag → table_tag e ≡ None
of_no_table tag is (Auto t) listed same = absurd (no_table tag is t same listed.of_its_tag)
of_no_table tag is (Integer t value) listed same = refl
of_no_table tag is (Text t text) listed same = refl

-- ## Lists

-- a list that takes the place of another
pub record ListsAgain (old new : List Entry) : Type 0 where
  pub listed : All IsListed new
  pub tables : tables_of new ≡ tables_of old

pub as_it_was : (es : List Entry) → All IsListed es → ListsAgain es es
as_it_was es all = record { listed = all; tables = refl }

pub one_of_two : (b : Bool) (old xs ys : List Entry) → ListsAgain old xs → ListsAgain old ys → ListsAgain old (if b then xs else ys)
one_of_two true old xs ys x y = x
one_of_two false old xs ys x y = y

taken_if : (b : Bool) (e x : Entry) → (b ≡ true → TakesPlace e x) → IsListed e → TakesPlace e (if b then x else e)
taken_if true e x takes listed = takes refl
taken_if false e x takes listed = record { listed = listed; table = refl }

pub changed_again : (test : Entry → Bool) (change : Entry → Entry) → ((e : Entry) → test e ≡ true → IsListed e → TakesPlace e (change e)) → (es : List Entry) → All IsListed es → ListsAgain es (changed_where test change es)
changed_again test change takes [] all = as_it_was [] all
changed_again test change takes (e ∷ es) all =
    let head = All-head IsListed e es all in
    let rest = changed_again test change takes es (All-tail IsListed e es all) in
    let one = taken_if (test e) e (change e) (λ h. takes e h head) head in
    record {
      listed = All-cons IsListed (if test e then change e else e) (changed_where test change es) one.listed rest.listed;
      tables = ap (λ o. cons_option o (tables_of (changed_where test change es))) one.table ∙ ap (cons_option (table_tag e)) rest.tables;
    }

dropped_tables : (keep : Entry → Bool) → ((e : Entry) → keep e ≡ false → IsListed e → table_tag e ≡ None) → (es : List Entry) → All IsListed es → tables_of (filter keep es) ≡ tables_of es
dropped_tables keep none [] all = refl
dropped_tables keep none (e ∷ es) all =
    let rest = dropped_tables keep none es (All-tail IsListed e es all) in
    by_test (keep e)
    (λ holds. ap tables_of (cond-true (keep e) (e ∷ filter keep es) (filter keep es) holds) ∙ ap (cons_option (table_tag e)) rest)
    (λ fails. ap tables_of (cond-false (keep e) (e ∷ filter keep es) (filter keep es) fails) ∙ rest
    ∙ sym (ap (λ o. cons_option o (tables_of es)) (none e fails (All-head IsListed e es all))))

pub kept_again : (keep : Entry → Bool) → ((e : Entry) → keep e ≡ false → IsListed e → table_tag e ≡ None) → (es : List Entry) → All IsListed es → ListsAgain es (filter keep es)
kept_again keep none es all = record { listed = All-filter keep IsListed es all; tables = dropped_tables keep none es all }

pub last_again : (es : List Entry) (added : Entry) → All IsListed es → IsListed added → table_tag added ≡ None → ListsAgain es (es ++ added ∷ [])
last_again es added all listed none = record {
  listed = All-push IsListed es added all listed;
  tables = filter_map-append table_tag es (added ∷ []) ∙ ap (λ o. tables_of es ++ cons_option o []) none ∙ append-nil (tables_of es);
}

pub first_again : (names : List (List ℕ)) → list_any holds_nul names ≡ false → (es : List Entry) → All IsListed es → ListsAgain es (map (Text DT_NEEDED) names ++ es)
first_again [] whole es all = as_it_was es all
first_again (name ∷ names) whole es all =
    let parts = or_parts (holds_nul name) (list_any holds_nul names) whole in
    let rest = first_again names parts.1 es all in
    record { listed = All-cons IsListed (Text DT_NEEDED name) (map (Text DT_NEEDED) names ++ es) (listed_text DT_NEEDED name for_needed parts.0) rest.listed; tables = rest.tables }

-- ## Texts without a NUL

pub none_kept_of : {A : Type 0} (test keep : A → Bool) (xs : List A) → list_any test xs ≡ false → list_any test (filter keep xs) ≡ false
none_kept_of test keep [] none = refl
none_kept_of test keep (x ∷ xs) none =
    let parts = or_parts (test x) (list_any test xs) none in
    by_test (keep x)
    (λ holds. ap (list_any test) (cond-true (keep x) (x ∷ filter keep xs) (filter keep xs) holds) ∙ ap (λ b. b || list_any test (filter keep xs)) parts.0 ∙ none_kept_of test keep xs parts.1)
    (λ fails. ap (list_any test) (cond-false (keep x) (x ∷ filter keep xs) (filter keep xs) fails) ∙ none_kept_of test keep xs parts.1)

both_none : (a b : Bool) → a ≡ false → b ≡ false → (a || b) ≡ false
both_none a b h k = ap (λ x. x || b) h ∙ k

behind_whole : (text added : List ℕ) → holds_nul text ≡ false → holds_nul added ≡ false → holds_nul (text ++ COLON ∷ added) ≡ false
behind_whole text added h k = list_any-append (λ byte. byte == 0) text (COLON ∷ added) ∙ both_none (holds_nul text) (holds_nul added) h k

directory_whole : (text added : List ℕ) → holds_nul text ≡ false → holds_nul added ≡ false → holds_nul (with_directories text added) ≡ false
directory_whole [] added h k = k
directory_whole (byte ∷ text) added h k = behind_whole (byte ∷ text) added h k

pub added_whole : (texts : List (List ℕ)) → list_any holds_nul texts ≡ false → (text : List ℕ) → holds_nul text ≡ false → holds_nul (with_each_added texts text) ≡ false
added_whole [] none text whole = whole
added_whole (added ∷ texts) none text whole =
    let parts = or_parts (holds_nul added) (list_any holds_nul texts) none in
    added_whole texts parts.1 (with_directories text added) (directory_whole text added whole parts.0)

pub joined_whole : (texts : List (List ℕ)) → list_any holds_nul texts ≡ false → holds_nul (joined_by_colons texts) ≡ false
joined_whole [] none = refl
joined_whole (text ∷ []) none = (or_parts (holds_nul text) false none).0
joined_whole (text ∷ next ∷ texts) none =
    let parts = or_parts (holds_nul text) (list_any holds_nul (next ∷ texts)) none in
    behind_whole text (joined_by_colons (next ∷ texts)) parts.0 (joined_whole (next ∷ texts) parts.1)

parts_whole : (texts : List (List ℕ)) → holds_nul (joined_by_colons texts) ≡ false → list_any holds_nul texts ≡ false
parts_whole [] whole = refl
parts_whole (text ∷ []) whole = both_none (holds_nul text) false whole refl
parts_whole (text ∷ next ∷ texts) whole =
    let parts = or_parts (holds_nul text) (holds_nul (joined_by_colons (next ∷ texts))) (sym (list_any-append (λ byte. byte == 0) text (COLON ∷ joined_by_colons (next ∷ texts))) ∙ whole) in
    both_none (holds_nul text) (list_any holds_nul (next ∷ texts)) parts.0 (parts_whole (next ∷ texts) parts.1)

pub shrunk_whole : (s : Search) (text : List ℕ) → holds_nul text ≡ false → holds_nul (shrunk_text s text) ≡ false
shrunk_whole s text whole =
    joined_whole (filter (stays s) (directories_in text))
    (none_kept_of holds_nul (stays s) (directories_in text) (parts_whole (directories_in text) (ap holds_nul (join_with_byte-slice_split COLON text) ∙ whole)))

-- the value of a key has no NUL
pub values_whole : (pairs : List (List ℕ × List ℕ)) → list_any holds_nul (flat_map (λ pair. pair.0 ∷ pair.1 ∷ []) pairs) ≡ false → (name : List ℕ) → holds_nul name ≡ false → holds_nul (unwrap_or (value_of pairs name) name) ≡ false
values_whole [] none name whole = whole
values_whole (pair ∷ pairs) none name whole =
    let parts = or_parts (holds_nul pair.0) (holds_nul pair.1 || list_any holds_nul (flat_map (λ pair. pair.0 ∷ pair.1 ∷ []) pairs)) none in
    let more = or_parts (holds_nul pair.1) (list_any holds_nul (flat_map (λ pair. pair.0 ∷ pair.1 ∷ []) pairs)) parts.1 in
    either (value_of pairs name) (bytes_eq name pair.0) (values_whole pairs more.1 name whole) more.0
  where
    either : (found : Option (List ℕ)) (b : Bool) → holds_nul (unwrap_or found name) ≡ false → holds_nul pair.1 ≡ false → holds_nul (unwrap_or (first_there found (if b then Some pair.1 else None)) name) ≡ false
    either (Some value) b h k = h
    either None true h k = k
    either None false h k = h
