-- Where the names of symbols stand in a string table (gABI, Symbol Table, st_name).
use Rattle.std.specs.Prelude.{ℕ, ◌+◌, ◌≡◌, ◌≤◌, List, length, slice_get, slice_index, Bool, ◌&&◌, Some, IsSome, ◌==◌, if◌then◌else◌, unwrap_or}
use Rattle.elf_format.specs.Options.{is_some_and}
use Rattle.elf_format.specs.Views.{NamedSymbol}
use Rattle.elf_tables.specs.Strings.{Strings, place_of}

-- the empty text stands at 0
abbrev pub begins_empty : Strings → Bool
begins_empty table = is_some_and (λ byte. byte == 0) (slice_get table.bytes 0)

-- where a string table tells a name; no name is at 0, if the table begins with a NUL
abbrev pub place_of_name : Strings → List ℕ → ℕ
place_of_name table name = if length name == 0 && begins_empty table then 0 else unwrap_or (place_of table name) 0

-- where a string table tells a symbol's name; no name is at 0, if the table begins with a NUL
abbrev pub place_in : Strings → NamedSymbol → ℕ
place_in table y = place_of_name table y.name

-- the place of a symbol's name, where a table has it there
abbrev pub place_of_named : Bool → NamedSymbol → ℕ → ℕ
place_of_named begins y place = if length y.name == 0 && begins then 0 else place

-- the table tells where each of these symbols has its name
pub record TellsNames (table : Strings) (ys : List NamedSymbol) : Type 0 where
  pub each : (i : ℕ) (y : NamedSymbol) → slice_get ys i ≡ Some y → IsSome (place_of table y.name)

-- behind so many texts a table was made of the names of these symbols
pub record HasNames (table : Strings) (before : ℕ) (ys : List NamedSymbol) : Type 0 where
  pub many : before + length ys ≤ length table.in_order
  pub each : (i : ℕ) (y : NamedSymbol) → slice_get ys i ≡ Some y → place_of table y.name ≡ Some (slice_index table.in_order (before + i))
