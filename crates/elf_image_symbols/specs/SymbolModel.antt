-- A symbol, seen without where its name lies.
use Rattle.elf_format.specs.Views.{NamedSymbol}
use Rattle.elf_image_symbols.specs.declared.symbol.Symbol.{Symbol}

abbrev pub symbol_model : Symbol → NamedSymbol
symbol_model y = record { name = y.name.now; st_info = y.st_info; st_other = y.st_other; st_shndx = y.st_shndx; st_value = y.st_value; st_size = y.st_size; version = y.version }
