-- What the code makes of dynamic symbols.
use Rattle.std.specs.Prelude.{ℕ, ◌≡◌, ◌≤◌, List, ◌++◌, length, take, drop, Bool, true, false, is_some, Option, Some, None, unwrap_or, if◌then◌else◌}
use Rattle.std.specs.Borrow.{Bor}
use Rattle.std.specs.List.{list_any}
use Rattle.std.specs.Str.{bytes_eq}
use Rattle.elf_image.specs.Views.{NamedSymbol}
use Rattle.elf_image_symbols.specs.EditedList.{EditedList, IsName, with_name}
use Rattle.elf_edits.specs.declared.symbols.SymbolChange.{SymbolChange}
use Rattle.elf_edits.specs.declared.symbols.SymbolChange.TheVariants as changes
use Rattle.elf_edits.specs.Changes.{name_for}
use Rattle.elf_edits.specs.Edit.{Edit, edited_symbols, touches_symbols}
use Rattle.elf_edits.specs.Symbols.{behind_first, cleared, has_version_to_clear}

-- the symbol with the name that a map, by its entries, has for its own, if it has one
abbrev pub renamed_by : List (Bor (List ℕ) × Bor (List ℕ)) → NamedSymbol → NamedSymbol
renamed_by names y = with_name (unwrap_or (name_for names y.name) y.name) y

-- the symbol with the second name, if it has the first
abbrev pub renamed_from : List ℕ → List ℕ → NamedSymbol → NamedSymbol
renamed_from old new y = if bytes_eq y.name old then with_name new y else y

-- no name that a map gives has a NUL in it
abbrev pub GivesNames : List (Bor (List ℕ) × Bor (List ℕ)) → Type 0
GivesNames names = (old new : List ℕ) → name_for names old ≡ Some new → IsName new

-- the symbols that a change is about
abbrev pub is_changed : SymbolChange → NamedSymbol → Bool
is_changed (changes.Name names) y = is_some (name_for names.now.entries y.name)
is_changed (changes.One old new) y = bytes_eq y.name old.now
is_changed (changes.Version name) y = has_version_to_clear name.now y

-- a symbol with its change
abbrev pub changed_symbol : SymbolChange → NamedSymbol → NamedSymbol
changed_symbol (changes.Name names) y = renamed_by names.now.entries y
changed_symbol (changes.One old new) y = renamed_from old.now new.now y
changed_symbol (changes.Version name) y = cleared name.now y

-- the symbols with a change, up to a position
abbrev pub changed_to : SymbolChange → ℕ → List NamedSymbol → List NamedSymbol
changed_to change i ys = take i (behind_first (changed_symbol change) ys) ++ drop i ys

-- A change is about symbols behind the first, the first of which stands at a position: it leaves those before.
pub record BeginsAt (change : SymbolChange) (ys : List NamedSymbol) (i : ℕ) : Type 0 where
  pub about : list_any (is_changed change) (drop 1 ys) ≡ true
  pub behind : 1 ≤ i
  pub within : i ≤ length ys
  pub before : changed_to change i ys ≡ ys

-- A change leaves the symbols from a position on.
pub record EndsAt (change : SymbolChange) (ys : List NamedSymbol) (i : ℕ) : Type 0 where
  pub within : i ≤ length ys
  pub left : changed_to change i ys ≡ behind_first (changed_symbol change) ys

-- a change by which symbols have names without a NUL
abbrev pub KeepsNames : SymbolChange → Type 0
KeepsNames (changes.Name names) = GivesNames names.now.entries
KeepsNames (changes.One old new) = IsName new.now
KeepsNames (changes.Version name) = Unit {0}

-- the symbols after an edit where it wrote something; none where it did not
abbrev pub AreSymbolsAfter : Edit → EditedList → Option EditedList → Type 0
AreSymbolsAfter edit old None = touches_symbols edit old.symbols ≡ false
AreSymbolsAfter edit old (Some new) = (touches_symbols edit old.symbols ≡ true) × (new ≡ record old { symbols = edited_symbols edit old.symbols })

-- the symbols after a change where it wrote something; none where it did not
abbrev pub AreSymbolsChanged : SymbolChange → EditedList → Option EditedList → Type 0
AreSymbolsChanged change old None = list_any (is_changed change) (drop 1 old.symbols) ≡ false
AreSymbolsChanged change old (Some new) =
    (list_any (is_changed change) (drop 1 old.symbols) ≡ true) × (new ≡ record old { symbols = behind_first (changed_symbol change) old.symbols })
