-- Which dynamic symbols a look-up by name finds.
use Rattle.std.specs.Prelude.{◌/◌, Bool, ◌&&◌, not, ◌==◌}
use Rattle.elf_format.specs.Views.{NamedSymbol}

-- the symbol isn't seen by other files (gABI, Symbol Table, st_info, STB_LOCAL)
abbrev pub is_local : NamedSymbol → Bool
is_local y = y.st_info / 16 == 0

-- the symbol is defined elsewhere (gABI, Symbol Table, st_shndx, SHN_UNDEF)
abbrev pub is_sought : NamedSymbol → Bool
is_sought y = not (is_local y) && y.st_shndx == 0

-- a look-up may find the symbol: it is defined, and not local
abbrev pub is_found : NamedSymbol → Bool
is_found y = not (y.st_shndx == 0) && not (is_local y)
