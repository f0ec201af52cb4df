-- What an edit deletes of an image.
use Rattle.std.specs.Prelude.{ℕ, List, []}
use Rattle.std.specs.List.Sorted.{IsNonDecreasing}
use Rattle.elf_format.specs.Image.{Image}
use Rattle.elf_image.specs.Along.{symbols_along}
use Rattle.elf_symbol_edits.specs.Named.{named_dynamic_symbols, named_sections, named_symbols}
use Rattle.elf_symbol_edits.specs.SymbolEdit.{DeleteAllSymbols, DeleteDynamicSymbols, DeleteSections, DeleteSymbols, RenameAllSymbols, RenameSections, RenameSymbols, SymbolEdit}

-- Static symbols, dynamic symbols and sections, by their numbers at read.
pub record Deletion : Type 0 where
  pub symbols : List ℕ
  pub dynamic_symbols : List ℕ
  pub sections : List ℕ

abbrev pub no_deletion : Deletion
no_deletion = record { symbols = []; dynamic_symbols = []; sections = [] }

-- with sections go the static symbols that go along with them
abbrev pub deletion_of : SymbolEdit → Image → Deletion
deletion_of (RenameSymbols pairs) image = no_deletion
deletion_of (DeleteSymbols names) image = record { symbols = named_symbols names image; dynamic_symbols = []; sections = [] }
deletion_of (DeleteDynamicSymbols names) image = record { symbols = []; dynamic_symbols = named_dynamic_symbols names image; sections = [] }
deletion_of (RenameAllSymbols pairs) image = no_deletion
deletion_of (DeleteAllSymbols names) image = record { symbols = named_symbols names image; dynamic_symbols = named_dynamic_symbols names image; sections = [] }
deletion_of (RenameSections pairs) image = no_deletion
deletion_of (DeleteSections names) image = record { symbols = symbols_along image (named_sections names image); dynamic_symbols = []; sections = named_sections names image }

-- the numbers of each rise
pub record AreRising (d : Deletion) : Type 0 where
  pub symbols : IsNonDecreasing d.symbols
  pub dynamic_symbols : IsNonDecreasing d.dynamic_symbols
  pub sections : IsNonDecreasing d.sections
