-- What a reader of symbols holds, seen as a list of them.
use Rattle.std.specs.Prelude.{◌≡◌, List, [], length, Option, Some, option_map, unwrap_or}
use Rattle.elf_format.specs.Memory.{memory_of}
use Rattle.elf_format.specs.Answers.{borrowed}
use Rattle.elf_format.specs.Views.{NamedSymbol}
use Rattle.elf_image_symbols.specs.declared.symbols.Symbols.TheInside.{Inside}
use Rattle.elf_image_symbols.specs.TableSymbols.{table_symbols}

-- the symbols of its table, where each has its name
abbrev pub symbols_of : Inside → Option (List NamedSymbol)
symbols_of s = table_symbols s.form (length s.texts.now) (memory_of s.texts.now) s.bytes.now (option_map borrowed s.versions)

abbrev pub symbols_model : Inside → List NamedSymbol
symbols_model s = unwrap_or (symbols_of s) []

-- each symbol has its name
abbrev pub HaveNames : Inside → Type 0
HaveNames s = symbols_of s ≡ Some (symbols_model s)
