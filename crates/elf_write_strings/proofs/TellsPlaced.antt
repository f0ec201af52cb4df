-- Texts of entries, symbols and sections that are placed where they stand.
use Rattle.std.proofs.Common.{◌≡◌, ℕ, zero, suc, ◌+◌, ◌<◌, ◌≤◌, List, [], ◌∷◌, length, map, get_or, inl, inr, refl, sym, ap, ◌∙◌, subst, Option, Some, None, arith}
use Rattle.std.specs.Option.{option_map}
use Rattle.std.specs.List.{slice_get}
use Rattle.std.proofs.lemmas.Bool.{cases_lt}
use Rattle.std.proofs.lemmas.List.{get_or_default}
use Rattle.std.proofs.lemmas.Option.{none-some, same_Some, slice_get-get_or}
use Rattle.elf_format.specs.declared.records.EntryNumbers.{EntryNumbers}
use Rattle.elf_format.specs.declared.records.SectionHeader.{SectionHeader}
use Rattle.elf_format.specs.declared.records.SymbolNumbers.{SymbolNumbers}
use Rattle.elf_format.specs.Dynamic.{Auto, Entry, Integer, Text}
use Rattle.elf_format.specs.Views.{NamedSymbol}
use Rattle.elf_image.specs.declared.dynamic.Dynamic.{Dynamic}
use Rattle.elf_image.specs.declared.section.Section.{Section}
use Rattle.elf_image.specs.ImageModel.{entry_model, section_model}
use Rattle.elf_layout_plan.specs.Texts.{texts_of_entries, texts_of_entry, texts_of_symbols}
use Rattle.elf_tables.specs.Strings.{StandsAt, Strings}
use Rattle.elf_write_strings.specs.PlacedTexts.{AreSectionsAt, AreSymbolsAt, EntriesStand, EntryStands, TellsAll, TellsEntry, names_of_sections}
use Rattle.elf_write_strings.specs.VersionPlaces.{HasMore, Tells}
use Rattle.elf_write_strings.proofs.TextsTold.{both_told, by_each, none_told}

-- ## Entries

pub entries_long : (strings : List ℕ) (es : List Dynamic) (xs : List EntryNumbers) → EntriesStand strings (map entry_model es) xs
    → length es ≤ length xs
entries_long strings [] xs stand = omega arith
entries_long strings (e ∷ es) [] stand = absurd stand
entries_long strings (e ∷ es) (x ∷ xs) stand = omega (arith, entries_long strings es xs stand.1)

each_stands : (strings : List ℕ) (es : List Dynamic) (xs : List EntryNumbers) → EntriesStand strings (map entry_model es) xs
    → (i : ℕ) (d : Dynamic) (y : EntryNumbers) → i < length es → EntryStands strings (entry_model (get_or es i d)) (get_or xs i y).d_value
each_stands strings [] xs stand i d y within = absurd (omega (arith, within))
each_stands strings (e ∷ es) [] stand i d y within = absurd stand
each_stands strings (e ∷ es) (x ∷ xs) stand zero d y within = stand.0
each_stands strings (e ∷ es) (x ∷ xs) stand (suc i) d y within = each_stands strings es xs stand.1 i d y (omega (arith, within))

-- the text of an entry stands in the table as it is by now where its numbers tell
pub entry_at_place : (old now : Strings) (es : List Dynamic) (xs : List EntryNumbers) (i : ℕ) (e : Dynamic) (y : EntryNumbers)
    → EntriesStand old.bytes (map entry_model es) xs → HasMore old now → i < length es → e ≡ get_or es i e
    → EntryStands now.bytes (entry_model e) (get_or xs i y).d_value
entry_at_place old now es xs i e y stand more within here =
    subst (λ (d : Dynamic). EntryStands now.bytes (entry_model d) (get_or xs i y).d_value) (sym here)
    (subst (λ (bytes : List ℕ). EntryStands bytes (entry_model (get_or es i e)) (get_or xs i y).d_value) (sym more.bytes)
    (each_stands old.bytes es xs stand i e y within))

pub entry_more : (old now : Strings) → HasMore old now → (e : Entry) → TellsEntry old e → TellsEntry now e
entry_more old now more (Auto tag) told = tt
entry_more old now more (Integer tag number) told = tt
entry_more old now more (Text tag text) told = more.had text told

entry_told : (table : Strings) (e : Entry) → TellsEntry table e → TellsAll table (texts_of_entry e)
entry_told table (Auto tag) told = none_told table
entry_told table (Integer tag number) told = none_told table
entry_told table (Text tag text) told = by_each table (text ∷ []) (told, tt)

-- all texts of entries are told, one by one
pub entries_told : (table : Strings) (es : List Dynamic)
    → ((k : ℕ) (d : Dynamic) → k < length es → TellsEntry table (entry_model (get_or es k d)))
    → TellsAll table (texts_of_entries (map entry_model es))
entries_told table [] all = none_told table
entries_told table (e ∷ es) all =
    both_told table (texts_of_entry (entry_model e)) (texts_of_entries (map entry_model es))
    (entry_told table (entry_model e) (all 0 e (omega arith)))
    (entries_told table es (λ i x within. all (suc i) x (omega (arith, within))))

-- ## Names

-- the names so far are told, and one more
pub names_up_to : {A : Type 0} → (f : A → List ℕ) (old now : Strings) (xs : List A) (i : ℕ) (text : List ℕ) → HasMore old now
    → ((k : ℕ) (d : A) → k < i → Tells old (f (get_or xs k d))) → ((d : A) → text ≡ f (get_or xs i d)) → Tells now text
    → (k : ℕ) (d : A) → k < i + 1 → Tells now (f (get_or xs k d))
names_up_to {A} f old now xs i text more before here told k d below = elim (cases_lt k i) [
  | inl less ↦ more.had (f (get_or xs k d)) (before k d less)
  | inr past ↦
      let same : i ≡ k = omega (arith, below, past) in
      subst (λ (n : ℕ). Tells now (f (get_or xs n d))) same (subst (Tells now) (here d) told)
]

-- ## Symbols

pub name_at : (ys : List NamedSymbol) (i : ℕ) (text : List ℕ) → option_map (λ y. y.name) (slice_get ys i) ≡ Some text
    → (d : NamedSymbol) → text ≡ (get_or ys i d).name
name_at [] i text named d = absurd (none-some text named)
name_at (y ∷ ys) zero text named d = sym (same_Some y.name text named)
name_at (y ∷ ys) (suc i) text named d = name_at ys i text named d

-- the name of a symbol stands in the table as it is by now where its record tells
pub symbol_at_place : (old now : Strings) (ys : List NamedSymbol) (ns : List SymbolNumbers) (i : ℕ) (n : SymbolNumbers) (text : List ℕ)
    → AreSymbolsAt old.bytes ys ns → HasMore old now → i < length ys → option_map (λ y. y.name) (slice_get ys i) ≡ Some text
    → StandsAt now.bytes (get_or ns i n).st_name text
symbol_at_place old now ys ns i n text are more within named = by_symbol (slice_get ys i) refl named
  where
    by_symbol : (o : Option NamedSymbol) → slice_get ys i ≡ o → option_map (λ y. y.name) o ≡ Some text
        → StandsAt now.bytes (get_or ns i n).st_name text
    by_symbol None at same = absurd (none-some text same)
    by_symbol (Some y) at same =
        subst (λ (t : List ℕ). StandsAt now.bytes (get_or ns i n).st_name t) (same_Some y.name text same)
        (subst (λ (bytes : List ℕ). StandsAt bytes (get_or ns i n).st_name y.name) (sym more.bytes)
        (are.each i y (get_or ns i n) at (slice_get-get_or ns i n (omega (arith, within, are.count)))))

pub symbols_told : (table : Strings) (ys : List NamedSymbol) → ((k : ℕ) (d : NamedSymbol) → k < length ys → Tells table (get_or ys k d).name)
    → TellsAll table (texts_of_symbols ys)
symbols_told table [] all = none_told table
symbols_told table (y ∷ ys) all =
    both_told table (y.name ∷ []) (texts_of_symbols ys) (by_each table (y.name ∷ []) (all 0 y (omega arith), tt))
    (symbols_told table ys (λ i x within. all (suc i) x (omega (arith, within))))

-- ## Sections

pub got_model : (ss : List Section) (i : ℕ) (d : Section) → i < length ss
    → slice_get (map section_model ss) i ≡ Some (section_model (get_or ss i d))
got_model [] i d within = absurd (omega (arith, within))
got_model (s ∷ ss) zero d within = refl
got_model (s ∷ ss) (suc i) d within = got_model ss i d (omega (arith, within))

-- the name of a section stands in the table as it is by now where its header tells
pub section_at_place : (old now : Strings) (ss : List Section) (hs : List SectionHeader) (i : ℕ) (s : Section) (h : SectionHeader) (text : List ℕ)
    → AreSectionsAt old.bytes (map section_model ss) hs → HasMore old now → i < length ss → i < length hs → s ≡ get_or ss i s
    → text ≡ (section_model s).name → StandsAt now.bytes (get_or hs i h).sh_name text
section_at_place old now ss hs i s h text are more within headed here named =
    subst (λ (t : List ℕ). StandsAt now.bytes (get_or hs i h).sh_name t) (sym named)
    (subst (λ (bytes : List ℕ). StandsAt bytes (get_or hs i h).sh_name (section_model s).name) (sym more.bytes)
    (are.each i (section_model s) (get_or hs i h)
    (got_model ss i s within ∙ ap (λ (x : Section). Some (section_model x)) (sym here)) (slice_get-get_or hs i h headed)))

-- the name that was placed is that of the section
pub name_here : (ss : List Section) (i : ℕ) (s : Section) (text : List ℕ) → i < length ss → s ≡ get_or ss i s → text ≡ (section_model s).name
    → (d : Section) → text ≡ (section_model (get_or ss i d)).name
name_here ss i s text within here named d = named ∙ ap (λ (x : Section). (section_model x).name) (here ∙ get_or_default ss i s d within)

pub sections_told : (table : Strings) (ss : List Section)
    → ((k : ℕ) (d : Section) → k < length ss → Tells table (section_model (get_or ss k d)).name)
    → TellsAll table (names_of_sections (map section_model ss))
sections_told table [] all = none_told table
sections_told table (s ∷ ss) all =
    both_told table ((section_model s).name ∷ []) (names_of_sections (map section_model ss))
    (by_each table ((section_model s).name ∷ []) (all 0 s (omega arith), tt))
    (sections_told table ss (λ i x within. all (suc i) x (omega (arith, within))))
