-- The symbols of a table with their names and versions, and the numbers of their records.
use Rattle.std.specs.Prelude.{ℕ, zero, suc, ◌+◌, ◌*◌, List, [], ◌∷◌, take, drop, length, replicate, Option, Some, None}
use Rattle.elf_format.specs.Memory.{◌>>=◌, Memory, text_at}
use Rattle.elf_format.specs.Number.{field}
use Rattle.elf_format.specs.declared.form.Form.{Form}
use Rattle.elf_format.specs.declared.records.SymbolNumbers.{SymbolNumbers}
use Rattle.elf_format.specs.declared.version_id.VersionId.{VersionId}
use Rattle.elf_format.specs.Form.{records}
use Rattle.elf_format.specs.Records.{symbol_numbers, symbol_size, symbols_in}
use Rattle.elf_format.specs.Versions.{version_id}
use Rattle.elf_format.specs.Views.{NamedSymbol, named_symbols, names_of}

-- a symbol with its name and its version
abbrev pub kept_as : SymbolNumbers → Option VersionId → List ℕ → NamedSymbol
kept_as y version name = record { name = name; st_info = y.st_info; st_other = y.st_other; st_shndx = y.st_shndx; st_value = y.st_value; st_size = y.st_size; version = version }

-- a symbol with its version and its name, which is read from the texts
unfoldable pub named_symbol : ℕ → Memory → SymbolNumbers → Option VersionId → Option NamedSymbol
named_symbol room texts y version = do
  name ← text_at room texts y.st_name
  Some (kept_as y version name)

-- the numbers of a symbol whose name stands at a place
abbrev pub symbol_with : ℕ → NamedSymbol → SymbolNumbers
symbol_with place y = record { st_name = place; st_info = y.st_info; st_other = y.st_other; st_shndx = y.st_shndx; st_value = y.st_value; st_size = y.st_size }

-- the version of the symbol at a position, where there are bytes of versions (GNU symbol versioning, .gnu.version)
abbrev pub version_at : Form → Option (List ℕ) → ℕ → Option VersionId
version_at form None i = None
version_at form (Some bytes) i = Some (version_id form (field 2 (i * 2) bytes))

-- the versions of so many symbols
unfoldable pub versions_in : Form → Option (List ℕ) → ℕ → List (Option VersionId)
versions_in form None count = replicate count None
versions_in form (Some bytes) count = records (λ b. Some (version_id form b)) 2 count bytes

-- the symbols of a table with their names and versions
unfoldable pub table_symbols : Form → ℕ → Memory → List ℕ → Option (List ℕ) → Option (List NamedSymbol)
table_symbols form room texts bytes versions = do
  names ← names_of room texts (symbols_in form bytes)
  Some (named_symbols (symbols_in form bytes) names (versions_in form versions (length (symbols_in form bytes))))

-- `count` symbols of a table with names and versions, from a position on; their records are the first of the bytes
unfoldable pub symbols_from : Form → ℕ → Memory → Option (List ℕ) → ℕ → ℕ → List ℕ → Option (List NamedSymbol)
symbols_from form room texts versions zero i bytes = Some []
symbols_from form room texts versions (suc count) i bytes = do
  y ← named_symbol room texts (symbol_numbers form (take (symbol_size form) bytes)) (version_at form versions i)
  ys ← symbols_from form room texts versions count (i + 1) (drop (symbol_size form) bytes)
  Some (y ∷ ys)
