-- The symbols of a file, as an image has them.
use Rattle.std.specs.Prelude.{ℕ, ◌≡◌, List, Option, Some, Ok}
use Rattle.patch_bytes.specs.Memory.{◌>>=◌}
use Rattle.elf_format.specs.declared.constants.TheConstants.{SHT_DYNSYM, SHT_SYMTAB}
use Rattle.elf_format.specs.File.{Parts, section_of_type}
use Rattle.elf_format.specs.Image.{Image, dynamic_symbols_read, image_of, static_symbols}
use Rattle.elf_format.specs.Stages.{parts_read}
use Rattle.elf_image_symbols.specs.declared.lists.SymbolLists.{SymbolLists}

-- the lists of symbols of the file that has these parts
unfoldable pub lists_read : Parts → Option SymbolLists
lists_read p = do
  symbols ← static_symbols p (section_of_type SHT_SYMTAB p.sections)
  dynamic_symbols ← dynamic_symbols_read p (section_of_type SHT_DYNSYM p.sections)
  Some (record { symbols = symbols; dynamic_symbols = dynamic_symbols })

-- these are the lists of symbols of the file that has these parts
abbrev pub AreSymbolsRead : Parts → SymbolLists → Type 0
AreSymbolsRead p lists = lists_read p ≡ Some lists

-- the symbols of an image
pub record AreSymbolsOfImage (image : Image) (lists : SymbolLists) : Type 0 where
  pub symbols : lists.symbols ≡ image.symbols
  pub dynamic_symbols : lists.dynamic_symbols ≡ image.dynamic_symbols

-- the symbols of a file: as its header tables tell them where these can be read, and of its image where it has one
pub record AreSymbolsOfFile (file : List ℕ) (lists : SymbolLists) : Type 0 where
  pub by_parts : (p : Parts) → parts_read file ≡ Ok p → AreSymbolsRead p lists
  pub by_image : (image : Image) → image_of file ≡ Ok image → AreSymbolsOfImage image lists

-- an image has the dynamic symbols of another one
pub record HasDynamicSymbolsOf (read image : Image) : Type 0 where
  pub symbols : image.dynamic_symbols ≡ read.dynamic_symbols
  pub numbers : image.dynamic_symbol_numbers ≡ read.dynamic_symbol_numbers

-- an image has the symbols for a link editor of another one
pub record HasStaticSymbolsOf (read image : Image) : Type 0 where
  pub symbols : image.symbols ≡ read.symbols
  pub numbers : image.symbol_numbers ≡ read.symbol_numbers

-- what is asked of an image and of the one that was read from its source
abbrev pub OfRead : Image → (Image → Type 0) → Type 0
OfRead image Holds = (read : Image) → image_of image.source ≡ Ok read → Holds read
