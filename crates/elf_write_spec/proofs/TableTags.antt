-- The tags of tables in a dynamic list: an image's list and its raw entries have the same, and an edited list has the tags that were read,
-- but for the tags of needed versions where none is left.
use Rattle.std.proofs.Common.{◌≡◌, ◌≤◌, ◌⊎◌, ℕ, suc, Bool, true, false, cond, List, [], ◌∷◌, map, length, refl, sym, ap, ◌∙◌, Option, Some, None, All, inl, inr, arith}
use Rattle.std.specs.Prelude.{◌==◌, ◌||◌, not, filter, find, is_some, nat_le, count_by}
use Rattle.std.specs.List.{list_any}
use Rattle.std.proofs.lemmas.Bool.{both_ways, cond_both, eq-eqb, eqb-true, false≢true, le-leb, leb-true, not-true, or_cases, or_parts}
use Rattle.std.proofs.lemmas.List.Elements.{All-head, All-tail}
use Rattle.std.proofs.lemmas.List.Sums.{length-filter}
use Rattle.std.proofs.lemmas.Option.{none-some, same_Some}
use Rattle.patch_bytes.specs.Memory.{◌>>=◌, Memory, text_at}
use Rattle.patch_bytes.proofs.MemoryLaws.{bind_some}
use Rattle.elf_format.specs.declared.constants.TheConstants.{DT_VERNEED, DT_VERNEEDNUM}
use Rattle.elf_format.specs.declared.records.EntryNumbers.{EntryNumbers}
use Rattle.elf_format.specs.Dynamic.{Auto, Entry, Integer, Text, has_tag, shown_entry, table_tags, text_tags, value_of_tag}
use Rattle.elf_format.specs.Image.{entry_tag}
use Rattle.elf_format.specs.Options.{each, is_one_of}
use Rattle.elf_format.specs.Rules.{tags_come_once}
use Rattle.elf_image.specs.DynamicList.{IsListed, is_table_tag, is_text_tag, table_tag, tables_of}
use Rattle.elf_layout_plan.specs.Memory.{Resized}
use Rattle.elf_layout_plan.specs.Plan.{Plan}
use Rattle.elf_layout_plan.proofs.ForCallers.ApartLists.{all-at, all-from, any-at, any-from, each-at, each-from}
use Rattle.elf_write_spec.specs.Contents.{AreEntriesOf, IsEntryOf, table_value}

-- ## Tags

-- no tag says both
text-no_table : (tag : ℕ) → is_text_tag tag ≡ true → is_table_tag tag ≡ false
text-no_table tag is =
    let (i, n, there, same) = any-at (λ x. x == tag) text_tags is in
    let other : not (is_table_tag n) ≡ true =
    each-at (λ x. not (is_table_tag x) ≡ true) text_tags (all-at (λ x. not (is_table_tag x)) text_tags refl) i n there in
    ap is_table_tag (sym (eqb-true n tag same)) ∙ not-true (is_table_tag n) other

-- an entry of a list is a table's just where its tag is one
entry_kind : (e : Entry) → IsListed e → (b : Bool) → is_table_tag (entry_tag e) ≡ b → table_tag e ≡ cond b (Some (entry_tag e)) None
entry_kind (Auto tag) is true h = refl
entry_kind (Auto tag) is false h = absurd (both_ways (is_table_tag tag) h is.of_its_tag)
entry_kind (Integer tag value) is true h =
    absurd (both_ways (is_table_tag tag) (or_parts (is_table_tag tag) (is_text_tag tag)
    (not-true (is_table_tag tag || is_text_tag tag) is.of_its_tag)).0 h)
entry_kind (Integer tag value) is false h = refl
entry_kind (Text tag text) is true h = absurd (both_ways (is_table_tag tag) (text-no_table tag is.of_its_tag) h)
entry_kind (Text tag text) is false h = refl

tables_with : Option ℕ → List ℕ → List ℕ
tables_with None ts = ts
tables_with (Some t) ts = t ∷ ts

tables-cons : (e : Entry) (es : List Entry) → tables_of (e ∷ es) ≡ tables_with (table_tag e) (tables_of es)
unfolding tables_with
tables-cons (Auto tag) es = refl
tables-cons (Integer tag value) es = refl
tables-cons (Text tag text) es = refl

-- the tags of tables among those of raw entries
abbrev pub raw_tables : List EntryNumbers → List ℕ
raw_tables raw = filter is_table_tag (map (λ e. e.d_tag) raw)

-- the tags of entries
abbrev tags_of : List Entry → List ℕ
tags_of es = map entry_tag es

tables-tags : (es : List Entry) → All IsListed es → filter is_table_tag (tags_of es) ≡ tables_of es
unfolding tables_with
tables-tags [] listed = refl
tables-tags (e ∷ es) listed =
    ap (λ (l : List ℕ). cond (is_table_tag (entry_tag e)) (entry_tag e ∷ l) l) (tables-tags es (All-tail IsListed e es listed))
    ∙ by_kind (is_table_tag (entry_tag e)) (entry_kind e (All-head IsListed e es listed) (is_table_tag (entry_tag e)) refl)
    ∙ sym (tables-cons e es)
  where
    by_kind : (b : Bool) → table_tag e ≡ cond b (Some (entry_tag e)) None
        → cond b (entry_tag e ∷ tables_of es) (tables_of es) ≡ tables_with (table_tag e) (tables_of es)
    by_kind true h = ap (λ o. tables_with o (tables_of es)) (sym h)
    by_kind false h = ap (λ o. tables_with o (tables_of es)) (sym h)

-- ## Tags that are left

-- the tag isn't one of needed versions
abbrev pub is_lasting_tag : ℕ → Bool
is_lasting_tag tag = not (is_one_of (DT_VERNEED ∷ DT_VERNEEDNUM ∷ []) tag)

-- the tags are those that were there, or those without the ones of needed versions
abbrev pub AreTagsLeft : List ℕ → List ℕ → Type 0
AreTagsLeft old now = (now ≡ old) ⊎ (now ≡ filter is_lasting_tag old)

any-filtered : (test keep : ℕ → Bool) (xs : List ℕ) → list_any test (filter keep xs) ≡ true → list_any test xs ≡ true
any-filtered test keep [] h = absurd (false≢true h)
any-filtered test keep (x ∷ xs) h = by_test (keep x) (any-filtered test keep xs) h
  where
    either : (b : Bool) → (b || true) ≡ true
    either true = refl
    either false = refl

    by_test : (b : Bool) → (list_any test (filter keep xs) ≡ true → list_any test xs ≡ true)
        → list_any test (cond b (x ∷ filter keep xs) (filter keep xs)) ≡ true → (test x || list_any test xs) ≡ true
    by_test true rest h = elim (or_cases (test x) (list_any test (filter keep xs)) h) [
      | inl here ↦ ap (λ (b : Bool). b || list_any test xs) here
      | inr later ↦ ap (λ (b : Bool). test x || b) (rest later) ∙ either (test x)
    ]
    by_test false rest h = ap (λ (b : Bool). test x || b) (rest h) ∙ either (test x)

any-lasting : (tag : ℕ) (keep : ℕ → Bool) → keep tag ≡ true → (xs : List ℕ) → list_any (λ t. t == tag) xs ≡ true
    → list_any (λ t. t == tag) (filter keep xs) ≡ true
any-lasting tag keep kept [] h = absurd (false≢true h)
any-lasting tag keep kept (x ∷ xs) h = elim (or_cases (x == tag) (list_any (λ t. t == tag) xs) h) [
  | inl here ↦
      ap (λ (b : Bool). list_any (λ t. t == tag) (cond b (x ∷ filter keep xs) (filter keep xs))) (ap keep (eqb-true x tag here) ∙ kept)
      ∙ ap (λ (b : Bool). b || list_any (λ t. t == tag) (filter keep xs)) here
  | inr later ↦ by_test (keep x) (any-lasting tag keep kept xs later)
]
  where
    either : (b : Bool) → (b || true) ≡ true
    either true = refl
    either false = refl

    by_test : (b : Bool) → list_any (λ t. t == tag) (filter keep xs) ≡ true
        → list_any (λ t. t == tag) (cond b (x ∷ filter keep xs) (filter keep xs)) ≡ true
    by_test true rest = ap (λ (b : Bool). (x == tag) || b) rest ∙ either (x == tag)
    by_test false rest = rest

length-filtered : (test keep : ℕ → Bool) (xs : List ℕ) → length (filter test (filter keep xs)) ≤ length (filter test xs)
length-filtered test keep [] = omega arith
length-filtered test keep (x ∷ xs) = by_tests (keep x) (test x) refl (length-filtered test keep xs)
  where
    by_tests : (k b : Bool) → test x ≡ b → length (filter test (filter keep xs)) ≤ length (filter test xs)
        → length (filter test (cond k (x ∷ filter keep xs) (filter keep xs))) ≤ length (cond b (x ∷ filter test xs) (filter test xs))
    by_tests true true e rest =
        let same : length (filter test (x ∷ filter keep xs)) ≡ suc (length (filter test (filter keep xs))) =
        ap (λ (c : Bool). length (cond c (x ∷ filter test (filter keep xs)) (filter test (filter keep xs)))) e in
        omega (arith, same, rest)
    by_tests true false e rest =
        let same : length (filter test (x ∷ filter keep xs)) ≡ length (filter test (filter keep xs)) =
        ap (λ (c : Bool). length (cond c (x ∷ filter test (filter keep xs)) (filter test (filter keep xs)))) e in
        omega (arith, same, rest)
    by_tests false true e rest = omega (arith, rest)
    by_tests false false e rest = rest

-- ## How often a tag is there

module _ (tag : ℕ) (is_table : is_table_tag tag ≡ true) where
  -- as often as among the tags of tables
  count-tables : (raw : List EntryNumbers) → length (filter (λ e. e.d_tag == tag) raw) ≡ length (filter (λ t. t == tag) (raw_tables raw))
  count-tables [] = refl
  count-tables (e ∷ es) = by_tests (e.d_tag == tag) refl (is_table_tag e.d_tag) refl (count-tables es)
    where
      by_tests : (a : Bool) → (e.d_tag == tag) ≡ a → (b : Bool) → is_table_tag e.d_tag ≡ b
          → length (filter (λ x. x.d_tag == tag) es) ≡ length (filter (λ t. t == tag) (raw_tables es))
          → length (cond a (e ∷ filter (λ x. x.d_tag == tag) es) (filter (λ x. x.d_tag == tag) es))
          ≡ length (filter (λ t. t == tag) (cond b (e.d_tag ∷ raw_tables es) (raw_tables es)))
      by_tests true h true g rest = ap suc rest
          ∙ sym (ap (λ c. length (cond c (e.d_tag ∷ filter (λ t. t == tag) (raw_tables es)) (filter (λ t. t == tag) (raw_tables es)))) h)
      by_tests true h false g rest = absurd (both_ways (is_table_tag e.d_tag) g (ap is_table_tag (eqb-true e.d_tag tag h) ∙ is_table))
      by_tests false h true g rest = rest ∙ sym
          (ap (λ c. length (cond c (e.d_tag ∷ filter (λ t. t == tag) (raw_tables es)) (filter (λ t. t == tag) (raw_tables es)))) h)
      by_tests false h false g rest = rest

  pub count-left : (raw old : List EntryNumbers) → AreTagsLeft (raw_tables old) (raw_tables raw)
      → count_by (λ e. e.d_tag == tag) raw ≤ count_by (λ e. e.d_tag == tag) old
  count-left raw old left =
      let now = sym (length-filter (λ (e : EntryNumbers). e.d_tag == tag) raw) ∙ count-tables raw in
      let was = sym (length-filter (λ (e : EntryNumbers). e.d_tag == tag) old) ∙ count-tables old in
      elim left [
        | inl same ↦ omega (arith, now, was, ap (λ (l : List ℕ). length (filter (λ t. t == tag) l)) same)
        | inr less ↦
            omega (
              arith,
              now,
              was,
              ap (λ (l : List ℕ). length (filter (λ t. t == tag) l)) less,
              length-filtered (λ t. t == tag) is_lasting_tag (raw_tables old),
            )
      ]

  -- a tag is there just where it is among the tags of tables
  has-tables : (raw : List EntryNumbers) → has_tag tag raw ≡ list_any (λ t. t == tag) (raw_tables raw)
  has-tables [] = refl
  has-tables (e ∷ es) = by_tests (e.d_tag == tag) refl (is_table_tag e.d_tag) refl (has-tables es)
    where
      by_tests : (a : Bool) → (e.d_tag == tag) ≡ a → (b : Bool) → is_table_tag e.d_tag ≡ b
          → has_tag tag es ≡ list_any (λ t. t == tag) (raw_tables es)
          → is_some (cond a (Some e) (find (λ x. x.d_tag == tag) es) >>= λ x. Some x.d_value)
          ≡ list_any (λ t. t == tag) (cond b (e.d_tag ∷ raw_tables es) (raw_tables es))
      by_tests true h true g rest = sym (ap (λ c. c || list_any (λ t. t == tag) (raw_tables es)) h)
      by_tests true h false g rest = absurd (both_ways (is_table_tag e.d_tag) g (ap is_table_tag (eqb-true e.d_tag tag h) ∙ is_table))
      by_tests false h true g rest = rest ∙ sym (ap (λ c. c || list_any (λ t. t == tag) (raw_tables es)) h)
      by_tests false h false g rest = rest

  pub has-left : (raw old : List EntryNumbers) → AreTagsLeft (raw_tables old) (raw_tables raw) → has_tag tag raw ≡ true
      → has_tag tag old ≡ true
  has-left raw old left h =
      let there : list_any (λ t. t == tag) (raw_tables raw) ≡ true = sym (has-tables raw) ∙ h in
      has-tables old ∙ elim left [
        | inl same ↦ ap (list_any (λ t. t == tag)) (sym same) ∙ there
        | inr less ↦
            any-filtered (λ t. t == tag) is_lasting_tag (raw_tables old) (ap (list_any (λ t. t == tag)) (sym less) ∙ there)
      ]

  -- a tag that is none of needed versions is there where it was
  pub has-lasting : (raw old : List EntryNumbers) → AreTagsLeft (raw_tables old) (raw_tables raw) → is_lasting_tag tag ≡ true
      → has_tag tag old ≡ true → has_tag tag raw ≡ true
  has-lasting raw old left lasts h =
      let there : list_any (λ t. t == tag) (raw_tables old) ≡ true = sym (has-tables old) ∙ h in
      has-tables raw ∙ elim left [
        | inl same ↦ ap (list_any (λ t. t == tag)) same ∙ there
        | inr less ↦ ap (list_any (λ t. t == tag)) less ∙ any-lasting tag is_lasting_tag lasts (raw_tables old) there
      ]

-- where no tag of a table comes more often each comes once if each came once
pub once-left : (raw old : List EntryNumbers) → AreTagsLeft (raw_tables old) (raw_tables raw) → tags_come_once old ≡ true
    → tags_come_once raw ≡ true
once-left raw old left h =
    all-from (λ tag. nat_le (count_by (λ e. e.d_tag == tag) raw) 1) table_tags
    (each-from (λ tag. nat_le (count_by (λ e. e.d_tag == tag) raw) 1 ≡ true) table_tags (λ i tag there.
    let is_table : is_table_tag tag ≡ true = any-from (λ x. x == tag) table_tags i tag there (eq-eqb tag tag refl) in
    let once = each-at (λ t. nat_le (count_by (λ e. e.d_tag == t) old) 1 ≡ true) table_tags
    (all-at (λ t. nat_le (count_by (λ e. e.d_tag == t) old) 1) table_tags h) i tag there in
    le-leb (count_by (λ e. e.d_tag == tag) raw) 1 (omega (
      arith,
      count-left tag is_table raw old left,
      leb-true (count_by (λ e. e.d_tag == tag) old) 1 once,
    ))))

-- ## Entries that were read, and entries that are written

shown-tag : (room : ℕ) (texts : Memory) (e : EntryNumbers) (x : Entry) → shown_entry room texts e ≡ Some x → entry_tag x ≡ e.d_tag
unfolding shown_entry
shown-tag room texts e x =
    let text : Option Entry = text_at room texts e.d_value >>= λ t. Some (Text e.d_tag t) in
    let auto : Option Entry = Some (Auto e.d_tag) in
    let number : Option Entry = Some (Integer e.d_tag e.d_value) in
    let P : Option Entry → Type 0 = λ o. o ≡ Some x → entry_tag x ≡ e.d_tag in
    cond_both (is_one_of text_tags e.d_tag) text (cond (is_one_of table_tags e.d_tag) auto number) P
    (λ _ h. let (t, _, made) = bind_some (text_at room texts e.d_value) (λ u. Some (Text e.d_tag u)) x h in ap entry_tag
    (sym (same_Some (Text e.d_tag t) x made)))
    (λ _. cond_both (is_one_of table_tags e.d_tag) auto number P
    (λ _ h. ap entry_tag (sym (same_Some (Auto e.d_tag) x h))) (λ _ h. ap entry_tag (sym (same_Some (Integer e.d_tag e.d_value) x h))))

shown-tags : (room : ℕ) (texts : Memory) (raw : List EntryNumbers) (es : List Entry) → each (shown_entry room texts) raw ≡ Some es
    → map (λ e. e.d_tag) raw ≡ tags_of es
unfolding each
shown-tags room texts [] es h = ap tags_of (same_Some [] es h)
shown-tags room texts (e ∷ raw) es h =
    let (x, x_there, more) = bind_some (shown_entry room texts e) (λ y. each (shown_entry room texts) raw >>= λ ys. Some (y ∷ ys)) es h in
    let (xs, xs_there, made) = bind_some (each (shown_entry room texts) raw) (λ ys. Some (x ∷ ys)) es more in
    ap (λ t. t ∷ map (λ y. y.d_tag) raw) (sym (shown-tag room texts e x x_there))
    ∙ ap (λ (l : List ℕ). entry_tag x ∷ l) (shown-tags room texts raw xs xs_there)
    ∙ ap tags_of (same_Some (x ∷ xs) es made)

-- what was read
pub tables_read : (room : ℕ) (texts : Memory) (raw : List EntryNumbers) (es : List Entry) → each (shown_entry room texts) raw ≡ Some es
    → All IsListed es → raw_tables raw ≡ tables_of es
tables_read room texts raw es h listed = ap (filter is_table_tag) (shown-tags room texts raw es h) ∙ tables-tags es listed

module _ (r : Resized) (plan : Plan) (strings : List ℕ) where
  written-tags : (es : List Entry) (raw : List EntryNumbers) → AreEntriesOf r plan strings es raw → map (λ e. e.d_tag) raw ≡ tags_of es
  written-tags [] [] h = refl
  written-tags [] (x ∷ xs) h = absurd h
  written-tags (e ∷ es) [] h = absurd h
  written-tags (e ∷ es) (x ∷ xs) h = ap (λ t. t ∷ map (λ y. y.d_tag) xs) h.0.tag
      ∙ ap (λ (l : List ℕ). entry_tag e ∷ l) (written-tags es xs h.1)

  -- what is written
  pub tables_written : (es : List Entry) (raw : List EntryNumbers) → AreEntriesOf r plan strings es raw → All IsListed es
      → raw_tables raw ≡ tables_of es
  tables_written es raw h listed = ap (filter is_table_tag) (written-tags es raw h) ∙ tables-tags es listed

  entry-value : (e : Entry) (x : EntryNumbers) → IsListed e → IsEntryOf r plan strings e x → is_table_tag (entry_tag e) ≡ true
      → x.d_value ≡ table_value r plan (entry_tag e)
  entry-value (Auto tag) x listed is is_table = is.value
  entry-value (Integer tag number) x listed is is_table = absurd (none-some tag (entry_kind (Integer tag number) listed true is_table))
  entry-value (Text tag text) x listed is is_table = absurd (none-some tag (entry_kind (Text tag text) listed true is_table))

  -- a table's tag has its table's value
  pub value_written : (es : List Entry) (raw : List EntryNumbers) → AreEntriesOf r plan strings es raw → All IsListed es → (tag : ℕ)
      → is_table_tag tag ≡ true
      → (value : ℕ) → value_of_tag tag raw ≡ Some value → value ≡ table_value r plan tag
  value_written [] [] h listed tag is_table value there = absurd (none-some value there)
  value_written [] (x ∷ xs) h listed tag is_table value there = absurd h
  value_written (e ∷ es) [] h listed tag is_table value there = absurd h
  value_written (e ∷ es) (x ∷ xs) h listed tag is_table value there =
      by_test (x.d_tag == tag) refl (value_written es xs h.1 (All-tail IsListed e es listed) tag is_table value) there
    where
      by_test : (b : Bool) → (x.d_tag == tag) ≡ b → (value_of_tag tag xs ≡ Some value → value ≡ table_value r plan tag)
          → (cond b (Some x) (find (λ y. y.d_tag == tag) xs) >>= λ y. Some y.d_value) ≡ Some value → value ≡ table_value r plan tag
      by_test true is rest here =
          let same : entry_tag e ≡ tag = sym h.0.tag ∙ eqb-true x.d_tag tag is in
          sym (same_Some x.d_value value here) ∙ entry-value e x (All-head IsListed e es listed) h.0 (ap is_table_tag same ∙ is_table)
          ∙ ap (table_value r plan) same
      by_test false is rest here = rest here
