-- Each change of a dynamic list leaves one that names the tables that were read.
use Rattle.std.proofs.Common.{◌≡◌, ◌≢◌, ℕ, zero, suc, Bool, true, false, List, [], ◌∷◌, refl, sym, ap, ◌∙◌, subst, Option, Some, None, All}
use Rattle.std.specs.Prelude.{◌==◌, ◌||◌, ◌&&◌, if◌then◌else◌, drop, not, take}
use Rattle.std.specs.List.{remove}
use Rattle.std.specs.Option.{option_map}
use Rattle.std.proofs.lemmas.Bool.{and_parts, eq-eqb, eqb-true, not-true, not_from_false, or_from, or_parts, true≢false}
use Rattle.std.proofs.lemmas.List.Elements.{All-append, All-cons, All-drop, All-filter, All-head, All-nil, All-tail, All-take}
use Rattle.std.proofs.lemmas.Option.{none-some}
use Rattle.elf_format.specs.declared.constants.TheConstants.{DT_NULL}
use Rattle.elf_format.specs.Dynamic.{Auto, Entry, Integer, Text}
use Rattle.elf_format.specs.Image.{entry_tag}
use Rattle.elf_image_headers.specs.DynamicList.{IsListed, KeepsTables, can_delete, can_follow, can_retag, is_free_tag, is_table_tag, is_text_tag, retagged, table_tag, tables_of, with_tag, with_tag_at, without_tag}
use Rattle.elf_image.specs.Edited.{AreEntriesOf}

-- an entry whose tag is no table's names no table
free_none : (e : Entry) → IsListed e → is_free_tag (entry_tag e) ≡ true → table_tag e ≡ None
free_none (Auto tag) is free = absurd (true≢false (sym is.of_its_tag ∙ not-true (is_table_tag tag) free))
free_none (Integer tag value) is free = refl
free_none (Text tag text) is free = refl

tables-cons : (e : Entry) (es : List Entry) → table_tag e ≡ None → tables_of (e ∷ es) ≡ tables_of es
tables-cons (Auto tag) es h = absurd (none-some tag (sym h))
tables-cons (Integer tag value) es h = refl
tables-cons (Text tag text) es h = refl

tables-head : (e f : Entry) (es fs : List Entry) → table_tag f ≡ table_tag e → tables_of fs ≡ tables_of es → tables_of (f ∷ fs) ≡ tables_of (e ∷ es)
tables-head e f es fs h g = ap (λ o. tables_with o (tables_of fs)) h ∙ ap (tables_with (table_tag e)) g
  where
    tables_with : Option ℕ → List ℕ → List ℕ
    tables_with None ts = ts
    tables_with (Some t) ts = t ∷ ts

-- ## One entry goes

removed : (es : List Entry) (i : ℕ) → All IsListed es → can_delete (Some es) i ≡ true → tables_of (remove es i) ≡ tables_of es
removed [] i all h = absurd (true≢false (sym h))
removed (e ∷ es) zero all h = sym (tables-cons e es (free_none e (All-head IsListed e es all) h))
removed (e ∷ es) (suc i) all h = tables-head e e es (remove es i) refl (removed es i (All-tail IsListed e es all) h)

-- ## Entries with a tag go

kept-by : (tag : ℕ) (e : Entry) (es : List Entry) (b : Bool) → (entry_tag e == tag) ≡ b → without_tag tag (e ∷ es) ≡ (if not b then e ∷ without_tag tag es else without_tag tag es)
kept-by tag e es b h = ap (λ c. if not c then e ∷ without_tag tag es else without_tag tag es) h

without_by : (tag : ℕ) (e : Entry) (es : List Entry) (b : Bool) → (entry_tag e == tag) ≡ b → is_free_tag tag ≡ true → IsListed e → tables_of (without_tag tag es) ≡ tables_of es
    → tables_of (without_tag tag (e ∷ es)) ≡ tables_of (e ∷ es)
without_by tag e es true h free is more =
    let same : entry_tag e ≡ tag = eqb-true (entry_tag e) tag h in
    ap tables_of (kept-by tag e es true h) ∙ more ∙ sym (tables-cons e es (free_none e is (ap is_free_tag same ∙ free)))
without_by tag e es false h free is more = ap tables_of (kept-by tag e es false h) ∙ tables-head e e es (without_tag tag es) refl more

without : (tag : ℕ) (es : List Entry) → is_free_tag tag ≡ true → All IsListed es → tables_of (without_tag tag es) ≡ tables_of es
without tag [] free all = refl
without tag (e ∷ es) free all = without_by tag e es (entry_tag e == tag) refl free (All-head IsListed e es all) (without tag es free (All-tail IsListed e es all))

-- ## Other tags

-- what a tag that follows another is
record Follows (old new : ℕ) : Type 0 where
  not_null : new ≢ DT_NULL
  old_free : is_free_tag old ≡ true
  new_free : is_free_tag new ≡ true
  same_kind : is_text_tag old ≡ is_text_tag new

follows : (old new : ℕ) → can_follow new old ≡ true → Follows old new
follows old new h =
    let (null, rest) = and_parts (not (new == DT_NULL)) (is_free_tag old && (is_free_tag new && (if is_text_tag old then is_text_tag new else not (is_text_tag new)))) h in
    let (first, more) = and_parts (is_free_tag old) (is_free_tag new && (if is_text_tag old then is_text_tag new else not (is_text_tag new))) rest in
    let (second, kind) = and_parts (is_free_tag new) (if is_text_tag old then is_text_tag new else not (is_text_tag new)) more in
    record {
      not_null = λ e. true≢false (sym (eq-eqb new DT_NULL e) ∙ not-true (new == DT_NULL) null);
      old_free = first;
      new_free = second;
      same_kind = by_kind (is_text_tag old) (is_text_tag new) kind;
    }
  where
    by_kind : (a b : Bool) → (if a then b else not b) ≡ true → a ≡ b
    by_kind true b h = sym h
    by_kind false b h = sym (not-true b h)

tagged : (e : Entry) (new : ℕ) → IsListed e → Follows (entry_tag e) new → IsListed (with_tag new e) × (table_tag (with_tag new e) ≡ table_tag e)
tagged (Auto old) new is to = absurd (true≢false (sym is.of_its_tag ∙ not-true (is_table_tag old) to.old_free))
tagged (Integer old value) new is to =
    let no_text : is_text_tag new ≡ false = sym to.same_kind ∙ (or_parts (is_table_tag old) (is_text_tag old) (not-true (is_table_tag old || is_text_tag old) is.of_its_tag)).1 in
    (record { not_null = to.not_null; of_its_tag = not_from_false (is_table_tag new || is_text_tag new) (or_from (is_table_tag new) (is_text_tag new) (not-true (is_table_tag new) to.new_free) no_text); whole = refl }, refl)
tagged (Text old text) new is to = (record { not_null = to.not_null; of_its_tag = sym to.same_kind ∙ is.of_its_tag; whole = is.whole }, refl)

tagged_if : (e : Entry) (old new : ℕ) (b : Bool) → (entry_tag e == old) ≡ b → IsListed e → Follows old new
    → IsListed (if b then with_tag new e else e) × (table_tag (if b then with_tag new e else e) ≡ table_tag e)
tagged_if e old new true h is to = tagged e new is (subst (λ t. Follows t new) (sym (eqb-true (entry_tag e) old h)) to)
tagged_if e old new false h is to = (is, refl)

all_tagged : (old new : ℕ) (es : List Entry) → Follows old new → All IsListed es → (tables_of (retagged old new es) ≡ tables_of es) × All IsListed (retagged old new es)
all_tagged old new [] to all = (refl, All-nil IsListed)
all_tagged old new (e ∷ es) to all =
    let (tables, listed) = all_tagged old new es to (All-tail IsListed e es all) in
    let (is, same) = tagged_if e old new (entry_tag e == old) refl (All-head IsListed e es all) to in (
      tables-head e (if entry_tag e == old then with_tag new e else e) es (retagged old new es) same tables,
      All-cons IsListed (if entry_tag e == old then with_tag new e else e) (retagged old new es) is listed,
    )

one_tagged : (i tag : ℕ) (es : List Entry) → can_retag (Some es) i tag ≡ true → All IsListed es → (tables_of (with_tag_at i tag es) ≡ tables_of es) × All IsListed (with_tag_at i tag es)
unfolding with_tag_at
one_tagged i tag [] h all = (refl, all)
one_tagged zero tag (e ∷ es) h all =
    let (is, same) = tagged e tag (All-head IsListed e es all) (follows (entry_tag e) tag h) in
    (tables-head e (with_tag tag e) es es same refl, All-cons IsListed (with_tag tag e) es is (All-tail IsListed e es all))
one_tagged (suc i) tag (e ∷ es) h all =
    let (tables, listed) = one_tagged i tag es h (All-tail IsListed e es all) in
    (tables-head e e es (with_tag_at i tag es) refl tables, All-cons IsListed e (with_tag_at i tag es) (All-head IsListed e es all) listed)

-- ## Lists that are there or not

pub entries_set : (read now : Option (List Entry)) (new : List Entry) → AreEntriesOf read now → KeepsTables now new → All IsListed new → AreEntriesOf read (Some new)
entries_set None None new h keeps all = absurd keeps
entries_set None (Some now) new h keeps all = absurd h
entries_set (Some read) None new h keeps all = absurd h
entries_set (Some read) (Some now) new h keeps all = record { tables = keeps ∙ h.tables; listed = all }

pub entries_removed : (read now : Option (List Entry)) (i : ℕ) → can_delete now i ≡ true → AreEntriesOf read now → AreEntriesOf read (option_map (λ list. remove list i) now)
entries_removed None None i can h = h
entries_removed None (Some now) i can h = absurd h
entries_removed (Some read) None i can h = absurd h
entries_removed (Some read) (Some now) i can h = record {
  tables = removed now i h.listed can ∙ h.tables;
  listed = All-append IsListed (take i now) (drop (suc i) now) (All-take IsListed i now h.listed) (All-drop IsListed (suc i) now h.listed);
}

pub entries_without : (read now : Option (List Entry)) (tag : ℕ) → is_free_tag tag ≡ true → AreEntriesOf read now → AreEntriesOf read (option_map (without_tag tag) now)
entries_without None None tag free h = h
entries_without None (Some now) tag free h = absurd h
entries_without (Some read) None tag free h = absurd h
entries_without (Some read) (Some now) tag free h = record {
  tables = without tag now free h.listed ∙ h.tables;
  listed = All-filter (λ e. not (entry_tag e == tag)) IsListed now h.listed;
}

pub entries_retagged : (read now : Option (List Entry)) (old new : ℕ) → can_follow new old ≡ true → AreEntriesOf read now → AreEntriesOf read (option_map (retagged old new) now)
entries_retagged None None old new can h = h
entries_retagged None (Some now) old new can h = absurd h
entries_retagged (Some read) None old new can h = absurd h
entries_retagged (Some read) (Some now) old new can h =
    let (tables, listed) = all_tagged old new now (follows old new can) h.listed in
    record { tables = tables ∙ h.tables; listed = listed }

pub entry_retagged : (read now : Option (List Entry)) (i tag : ℕ) → can_retag now i tag ≡ true → AreEntriesOf read now → AreEntriesOf read (option_map (with_tag_at i tag) now)
entry_retagged None None i tag can h = h
entry_retagged None (Some now) i tag can h = absurd h
entry_retagged (Some read) None i tag can h = absurd h
entry_retagged (Some read) (Some now) i tag can h =
    let (tables, listed) = one_tagged i tag now can h.listed in
    record { tables = tables ∙ h.tables; listed = listed }
