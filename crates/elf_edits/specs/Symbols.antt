-- What edits make of the dynamic symbols and of the needed versions (gABI, Symbol Table; GNU symbol versioning). The first symbol stands
-- for none, and no edit is about it.
use Rattle.std.specs.Prelude.{ℕ, List, [], ◌∷◌, map, drop, Bool, ◌&&◌, is_some, unwrap_or, if◌then◌else◌}
use Rattle.std.specs.Str.{bytes_eq}
use Rattle.elf_image.specs.Versions.{VersionNeeds}
use Rattle.elf_image.specs.Views.{NamedSymbol}
use Rattle.elf_image_symbols.specs.EditedList.{with_global_version, with_name}
use Rattle.elf_edits.specs.Texts.{value_of}

-- every element but the first is changed
abbrev pub behind_first : {A : Type 0} → (A → A) → List A → List A
behind_first change [] = []
behind_first change (x ∷ xs) = x ∷ map change xs

abbrev pub name_of_symbol : NamedSymbol → List ℕ
name_of_symbol y = y.name

-- the names of all symbols but the first
abbrev pub names_behind_first : List NamedSymbol → List (List ℕ)
names_behind_first symbols = map name_of_symbol (drop 1 symbols)

-- ## Names

-- some pairs of an old and a new name have another name for this one, be it the same
abbrev pub has_new_name : List (List ℕ × List ℕ) → List ℕ → Bool
has_new_name pairs name = is_some (value_of pairs name)

-- that name, or the old one
abbrev pub new_name : List (List ℕ × List ℕ) → List ℕ → List ℕ
new_name pairs name = unwrap_or (value_of pairs name) name

abbrev pub renamed : List (List ℕ × List ℕ) → NamedSymbol → NamedSymbol
renamed pairs y = with_name (new_name pairs y.name) y

-- the versions that are needed of a library, which may have another name there
abbrev pub with_library_replaced : List (List ℕ × List ℕ) → VersionNeeds → VersionNeeds
with_library_replaced pairs n = record n { file = new_name pairs n.file }

-- ## Versions

-- the symbol has this name, and a version
abbrev pub has_version_to_clear : List ℕ → NamedSymbol → Bool
has_version_to_clear name y = bytes_eq y.name name && is_some y.version

-- a symbol with this name has the version of a global symbol in place of its own
abbrev pub cleared : List ℕ → NamedSymbol → NamedSymbol
cleared name y = if bytes_eq y.name name then with_global_version y else y
