-- What edits make of the dynamic symbols.
use Rattle.std.proofs.Common.{◌≡◌, ℕ, Bool, true, false, ◌||◌, List, [], ◌∷◌, map, drop, refl, sym, ap, ◌∙◌, Option, Some, None, is_some, option_map}
use Rattle.std.specs.Prelude.{◌&&◌, if◌then◌else◌, unwrap_or}
use Rattle.std.specs.List.{list_any}
use Rattle.std.specs.Str.{bytes_eq}
use Rattle.std.proofs.lemmas.Bool.{or_parts}
use Rattle.elf_format.specs.declared.version_id.VersionId.{VersionId}
use Rattle.elf_image.specs.Dynamic.{Entry}
use Rattle.elf_image.specs.Image.{seen_symbol}
use Rattle.elf_image.specs.Names.{texts_of_symbols}
use Rattle.elf_image.specs.Versions.{VersionNeeds}
use Rattle.elf_image.specs.Views.{NamedSymbol}
use Rattle.elf_image_symbols.specs.EditedList.{as_global, with_global_version}
use Rattle.elf_edits.specs.Edit.{ClearSymbolVersion, Edit, RenameDynamicSymbols, edited_entries, edited_needs, edited_symbols, touches_symbols}
use Rattle.elf_edits.specs.Edited.{edited_view}
use Rattle.elf_edits.specs.Laws.{SymbolsAreRenamedAtOnce, swap_of}
use Rattle.elf_edits.specs.Symbols.{behind_first, cleared, has_new_name, has_version_to_clear, name_of_symbol, names_behind_first, new_name, renamed}
use Rattle.elf_edits.specs.Texts.{value_of}
use Rattle.elf_edits.proofs.EntryLaws.{name_swapped_back}
use Rattle.elf_edits.proofs.ListLaws.{map_same}

-- ## All but the first

pub behind_first-map : {A B : Type 0} (f : A → A) (g : B → B) (seen : A → B) → ((x : A) → seen (f x) ≡ g (seen x)) → (xs : List A) → map seen (behind_first f xs) ≡ behind_first g (map seen xs)
behind_first-map f g seen same [] = refl
behind_first-map {A} {B} f g seen same (x ∷ xs) = ap (λ l. seen x ∷ l) (each xs)
  where
    each : (ys : List A) → map seen (map f ys) ≡ map g (map seen ys)
    each [] = refl
    each (y ∷ ys) = ap (λ z. z ∷ map seen (map f ys)) (same y) ∙ ap (λ l. g (seen y) ∷ l) (each ys)

map_same_of : {A : Type 0} (test : A → Bool) (f : A → A) → ((x : A) → test x ≡ false → f x ≡ x) → (xs : List A) → list_any test xs ≡ false → map f xs ≡ xs
map_same_of test f same [] none = refl
map_same_of test f same (x ∷ xs) none =
    let parts = or_parts (test x) (list_any test xs) none in
    ap (λ y. y ∷ map f xs) (same x parts.0) ∙ ap (λ l. x ∷ l) (map_same_of test f same xs parts.1)

-- where the edit is about none of them, all are as they were
pub behind_first-none : {A : Type 0} (test : A → Bool) (f : A → A) → ((x : A) → test x ≡ false → f x ≡ x) → (xs : List A) → list_any test (drop 1 xs) ≡ false → behind_first f xs ≡ xs
behind_first-none test f same [] none = refl
behind_first-none test f same (x ∷ xs) none = ap (λ l. x ∷ l) (map_same_of test f same xs none)

-- ## Names

names_each : (f : NamedSymbol → NamedSymbol) (g : List ℕ → List ℕ) → ((y : NamedSymbol) → name_of_symbol (f y) ≡ g (name_of_symbol y)) → (ys : List NamedSymbol) → map name_of_symbol (map f ys) ≡ map g (map name_of_symbol ys)
names_each f g same [] = refl
names_each f g same (y ∷ ys) = ap (λ n. n ∷ map name_of_symbol (map f ys)) (same y) ∙ ap (λ l. g y.name ∷ l) (names_each f g same ys)

names_after : (f : NamedSymbol → NamedSymbol) (g : List ℕ → List ℕ) → ((y : NamedSymbol) → name_of_symbol (f y) ≡ g (name_of_symbol y)) → (ys : List NamedSymbol) → names_behind_first (behind_first f ys) ≡ map g (names_behind_first ys)
names_after f g same [] = refl
names_after f g same (y ∷ ys) = names_each f g same ys

all_renamed : (pairs : List (List ℕ × List ℕ)) (ys : List NamedSymbol) → names_behind_first (behind_first (renamed pairs) ys) ≡ map (new_name pairs) (names_behind_first ys)
all_renamed pairs ys = names_after (renamed pairs) (new_name pairs) (λ y. refl) ys

-- a name for which there is no other one
same_name : (found : Option (List ℕ)) (name : List ℕ) → is_some found ≡ false → unwrap_or found name ≡ name
same_name None name h = refl
same_name (Some value) name h = absurd (cc)

pub not_renamed : (pairs : List (List ℕ × List ℕ)) (y : NamedSymbol) → has_new_name pairs y.name ≡ false → renamed pairs y ≡ y
not_renamed pairs y h = ap (λ (n : List ℕ). record y { name = n }) (same_name (value_of pairs y.name) y.name h)

-- a test of names, asked of symbols
any_name : (test : List ℕ → Bool) (ys : List NamedSymbol) → list_any test (map name_of_symbol ys) ≡ list_any (λ y. test y.name) ys
any_name test [] = refl
any_name test (y ∷ ys) = ap (λ b. test y.name || b) (any_name test ys)

pub any_name_behind_first : (test : List ℕ → Bool) (ys : List NamedSymbol) → list_any test (names_behind_first ys) ≡ list_any (λ y. test y.name) (drop 1 ys)
any_name_behind_first test ys = any_name test (drop 1 ys)

-- ## Versions

keeps_name : (b : Bool) (y : NamedSymbol) → (if b then with_global_version y else y).name ≡ y.name
keeps_name true y = refl
keeps_name false y = refl

pub name_kept : (name : List ℕ) (y : NamedSymbol) → (cleared name y).name ≡ y.name
name_kept name y = keeps_name (bytes_eq y.name name) y

not_cleared_if : (b : Bool) (y : NamedSymbol) (version : Option VersionId) → y.version ≡ version → (b && is_some version) ≡ false → (if b then with_global_version y else y) ≡ y
not_cleared_if false y version is h = refl
not_cleared_if true y (Some v) is h = absurd (cc)
not_cleared_if true y None is h = ap (λ (v : Option VersionId). record y { version = v }) (ap as_global is ∙ sym is)

pub not_cleared : (name : List ℕ) (y : NamedSymbol) → has_version_to_clear name y ≡ false → cleared name y ≡ y
not_cleared name y h = not_cleared_if (bytes_eq y.name name) y y.version refl h

-- ## All edits

-- an edit that writes no name and no version leaves the symbols as they were
pub symbols_untouched : (edit : Edit) (ys : List NamedSymbol) → touches_symbols edit ys ≡ false → edited_symbols edit ys ≡ ys
symbols_untouched (RenameDynamicSymbols pairs) ys none = behind_first-none (λ y. has_new_name pairs y.name) (renamed pairs) (not_renamed pairs) ys none
symbols_untouched (ClearSymbolVersion name) ys none = behind_first-none (has_version_to_clear name) (cleared name) (not_cleared name) ys none
symbols_untouched _ ys none = refl

-- the names after an edit, where it has no other one for a name that is there
pub names_stay : (edit : Edit) (ys : List NamedSymbol) → ((pairs : List (List ℕ × List ℕ)) → edit ≡ RenameDynamicSymbols pairs → list_any (has_new_name pairs) (names_behind_first ys) ≡ false)
    → texts_of_symbols (edited_symbols edit ys) ≡ texts_of_symbols ys
names_stay (RenameDynamicSymbols pairs) ys none = ap texts_of_symbols (symbols_untouched (RenameDynamicSymbols pairs) ys (sym (any_name_behind_first (has_new_name pairs) ys) ∙ none pairs refl))
names_stay (ClearSymbolVersion name) ys none = behind_first-map (cleared name) (λ n. n) name_of_symbol (name_kept name) ys ∙ all_same (map name_of_symbol ys)
  where
    all_same : (ns : List (List ℕ)) → behind_first (λ n. n) ns ≡ ns
    all_same [] = refl
    all_same (n ∷ ns) = ap (λ l. n ∷ l) (map_same (λ m. m) (λ m. refl) ns)
names_stay _ ys none = refl

-- the names behind the first are among all
pub names_behind : (ys zs : List NamedSymbol) → texts_of_symbols ys ≡ texts_of_symbols zs → names_behind_first ys ≡ names_behind_first zs
names_behind ys zs same = sym (dropped ys) ∙ ap (drop 1) same ∙ dropped zs
  where
    dropped : (xs : List NamedSymbol) → drop 1 (texts_of_symbols xs) ≡ names_behind_first xs
    dropped [] = refl
    dropped (x ∷ xs) = refl

-- ## What is shown

seen_cleared : (b c : Bool) (y : NamedSymbol) → seen_symbol b (if c then with_global_version y else y) ≡ (if c then with_global_version (seen_symbol b y) else seen_symbol b y)
seen_cleared true true y = refl
seen_cleared true false y = refl
seen_cleared false true y = refl
seen_cleared false false y = refl

-- an edit of what is shown is an edit of the symbols
pub seen_edited : (edit : Edit) (b : Bool) (ys : List NamedSymbol) → map (seen_symbol b) (edited_symbols edit ys) ≡ edited_symbols edit (map (seen_symbol b) ys)
seen_edited (RenameDynamicSymbols pairs) b ys = behind_first-map (renamed pairs) (renamed pairs) (seen_symbol b) (λ y. refl) ys
seen_edited (ClearSymbolVersion name) b ys = behind_first-map (cleared name) (cleared name) (seen_symbol b) (λ y. seen_cleared b (bytes_eq y.name name) y) ys
seen_edited _ b ys = refl

-- ## Swapped twice

symbol_swapped : (f g : List ℕ) (y : NamedSymbol) → renamed (swap_of f g) (renamed (swap_of f g) y) ≡ y
symbol_swapped f g y = ap (λ (n : List ℕ). record y { name = n }) (name_swapped_back f g y.name)

symbols_swapped : (f g : List ℕ) (ys : List NamedSymbol) → edited_symbols (RenameDynamicSymbols (swap_of f g)) (edited_symbols (RenameDynamicSymbols (swap_of f g)) ys) ≡ ys
symbols_swapped f g [] = refl
symbols_swapped f g (x ∷ xs) = ap (λ l. x ∷ l) (each xs)
  where
    each : (ys : List NamedSymbol) → map (renamed (swap_of f g)) (map (renamed (swap_of f g)) ys) ≡ ys
    each [] = refl
    each (y ∷ ys) = ap (λ z. z ∷ map (renamed (swap_of f g)) (map (renamed (swap_of f g)) ys)) (symbol_swapped f g y) ∙ ap (λ l. y ∷ l) (each ys)

twice : {A : Type 0} (f : A → A) → ((x : A) → f (f x) ≡ x) → (o : Option A) → option_map f (option_map f o) ≡ o
twice f same None = refl
twice f same (Some x) = ap Some (same x)

pub symbols_are_renamed_at_once : SymbolsAreRenamedAtOnce
unfolding edited_entries
symbols_are_renamed_at_once = record {
  all = all_renamed;
  swapped_back = λ machine f g view.
      ap (λ (o : Option (List Entry)). record (edited_view machine (RenameDynamicSymbols (swap_of f g)) (edited_view machine (RenameDynamicSymbols (swap_of f g)) view)) { entries = o })
      (twice (edited_entries machine (RenameDynamicSymbols (swap_of f g))) (λ es. refl) view.entries)
      ∙ ap (λ (o : Option (List VersionNeeds)). record (edited_view machine (RenameDynamicSymbols (swap_of f g)) (edited_view machine (RenameDynamicSymbols (swap_of f g)) view)) { entries = view.entries; needs = o })
      (twice (edited_needs (RenameDynamicSymbols (swap_of f g))) (λ ns. refl) view.needs)
      ∙ ap (λ (o : Option (List NamedSymbol)). record view { symbols = o }) (twice (edited_symbols (RenameDynamicSymbols (swap_of f g))) (symbols_swapped f g) view.symbols);
}
