-- The steps of spelling the records of symbols (gABI, Symbol Table).
use Rattle.std.specs.Prelude.{ℕ, ◌*◌, ◌≡◌, List, length, take, Bool, true, Some, ◌==◌}
use Rattle.std.specs.List.{flat_map, list_all, slice_get}
use Rattle.elf_format.specs.declared.form.Form.{Form}
use Rattle.elf_format.specs.declared.records.SymbolNumbers.{SymbolNumbers}
use Rattle.elf_format.specs.Image.{Image}
use Rattle.elf_format.specs.Records.{symbol_size, symbols_in}
use Rattle.elf_format.specs.Views.{NamedSymbol}
use Rattle.elf_tables.specs.Fields.{do_fields_fit}
use Rattle.elf_tables.specs.Spelled.{spelled_symbol, symbol_fields}
use Rattle.elf_write_symbols.specs.Contents.{AreSymbolsOf, IsSymbolOf}
use Rattle.elf_write_symbols.specs.Final.{new_symbol_section}

-- a record that was read, with another place of the name and the number that the symbol's section gets
abbrev pub record_with : Image → ℕ → SymbolNumbers → SymbolNumbers
record_with image place n = record n { st_name = place; st_shndx = new_symbol_section image n.st_shndx }

-- the section of a symbol keeps its number
abbrev pub is_section_kept : Image → NamedSymbol → Bool
is_section_kept image y = y.st_shndx == new_symbol_section image y.st_shndx

-- the record of the symbol at a position: it shows the symbol, and each number fits its field
pub record IsRecordAt (form : Form) (strings : List ℕ) (ys : List NamedSymbol) (i : ℕ) (n : SymbolNumbers) : Type 0 where
  pub symbol : NamedSymbol
  pub is_there : slice_get ys i ≡ Some symbol
  pub shown : IsSymbolOf strings symbol n
  pub fits : do_fields_fit (symbol_fields form n) ≡ true

-- the records of the symbols before a position, spelled end to end
pub record AreSpelled (form : Form) (strings : List ℕ) (ys : List NamedSymbol) (i : ℕ) (bytes : List ℕ) : Type 0 where
  pub numbers : List SymbolNumbers
  pub are : bytes ≡ flat_map (spelled_symbol form) numbers
  pub fit : list_all (λ n. do_fields_fit (symbol_fields form n)) numbers ≡ true
  pub shown : AreSymbolsOf strings (take i ys) numbers

-- bytes that show these symbols, and nothing else
pub record ShowsSymbols (form : Form) (strings : List ℕ) (ys : List NamedSymbol) (bytes : List ℕ) : Type 0 where
  pub symbols : AreSymbolsOf strings ys (symbols_in form bytes)
  pub sized : length bytes ≡ length ys * symbol_size form
