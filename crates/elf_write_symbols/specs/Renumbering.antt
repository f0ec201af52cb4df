-- The new order of dynamic symbols and the new numbers of all sections and symbols, as they are handed on.
use Rattle.std.specs.Prelude.{ℕ, ◌<◌, ◌^◌, ◌≡◌, List, length, Bool, true, false, ◌&&◌, ◌||◌, not, Option, Some, None, is_some, nat_lt}
use Rattle.elf_format.specs.declared.constants.TheConstants.{SHT_DYNSYM, SHT_SYMTAB}
use Rattle.elf_format.specs.Hashes.{gnu_hash}
use Rattle.elf_format.specs.Image.{Image}
use Rattle.elf_hashes.specs.Found.{found_hashes}
use Rattle.elf_image.specs.Names.{are_names_changed}
use Rattle.elf_image.specs.Staying.{table_number}
use Rattle.elf_write_spec.specs.Final.{dynamic_order, is_static_renumbered, new_dynamic_symbols, new_static_symbols}
use Rattle.elf_write_symbols.specs.NewSections.{AreNewSections}
use Rattle.elf_write_symbols.specs.declared.numbers.NewNumbers.{NewNumbers}
use Rattle.elf_write_symbols.specs.declared.renumbering.Renumbering.{Renumbering}
use Rattle.elf_write_symbols.specs.declared.renumbering.Reordering.{Reordering}

-- the new number of each symbol that was read, for the symbols of the table with that number
pub record AreNewNumbers (table : Option ℕ) (numbers : List ℕ) (n : NewNumbers) : Type 0 where
  pub of_table : n.table ≡ table
  pub are : n.numbers.items ≡ numbers

-- ## Dynamic symbols

-- The order of an image whose dynamic symbols haven't, one by one, the names that were read, and the new number of each symbol that was
-- read. Their numbers fit 32 bits, and their hashes are those of the names that they have.
pub record IsReordering (read image : Image) (r : Reordering) : Type 0 where
  pub changed : are_names_changed read image ≡ true
  pub order : r.order.items ≡ dynamic_order read image
  pub hashes : r.hashes.items ≡ found_hashes gnu_hash image.dynamic_symbols
  pub numbers : AreNewNumbers (table_number SHT_DYNSYM image) (new_dynamic_symbols read image) r.numbers
  pub few : length image.dynamic_symbols < 2 ^ 32

-- there is a new order just where the names aren't those that were read
abbrev pub IsReorderingFor : Image → Image → Option Reordering → Type 0
IsReorderingFor read image None = are_names_changed read image ≡ false
IsReorderingFor read image (Some r) = IsReordering read image r

-- ## Static symbols

-- some static symbols went, and others are there, which relocations may name
abbrev pub are_static_numbers_new : Image → Image → Bool
are_static_numbers_new read image = is_static_renumbered read image && is_some (table_number SHT_SYMTAB image)

-- the new number of each static symbol that was read; their numbers fit 32 bits
pub record AreStaticNumbers (read image : Image) (n : NewNumbers) : Type 0 where
  pub changed : are_static_numbers_new read image ≡ true
  pub numbers : AreNewNumbers (table_number SHT_SYMTAB image) (new_static_symbols read image) n
  pub few : length image.symbols < 2 ^ 32

-- there are some just where these are new
abbrev pub AreStaticNumbersFor : Image → Image → Option NewNumbers → Type 0
AreStaticNumbersFor read image None = are_static_numbers_new read image ≡ false
AreStaticNumbersFor read image (Some n) = AreStaticNumbers read image n

-- ## All of them

pub record IsRenumbering (read image : Image) (r : Renumbering) : Type 0 where
  pub sections : AreNewSections read image r.sections
  pub dynamic : IsReorderingFor read image r.dynamic
  pub static_numbers : AreStaticNumbersFor read image r.static_numbers

-- hash tables that are made anew name symbols by 32 bits, and so do relocations
abbrev pub do_symbols_fit : Image → Image → Bool
do_symbols_fit read image =
    (not (are_names_changed read image) || nat_lt (length image.dynamic_symbols) (2 ^ 32))
    && (not (are_static_numbers_new read image) || nat_lt (length image.symbols) (2 ^ 32))
