-- What a loan of symbols shows.
use Rattle.std.specs.Prelude.{ℕ, List}
use Rattle.elf_format.specs.Views.{NamedSymbol}
use Rattle.elf_image_symbols.specs.declared.symbols_now.SymbolsNow.{SymbolsNow}

-- the symbols that are there, as they are now
abbrev pub symbols_now : SymbolsNow → List NamedSymbol
symbols_now s = s.edited.now.symbols

-- the numbers at read of the symbols that are there
abbrev pub numbers_now : SymbolsNow → List ℕ
numbers_now s = s.edited.now.numbers
