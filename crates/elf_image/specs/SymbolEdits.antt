-- Lists of edited symbols that an image may take in place of those that it has.
use Rattle.std.specs.Prelude.{ℕ, ◌≡◌, [], ◌∷◌, All, Contains, false, true}
use Rattle.elf_format.specs.declared.constants.TheConstants.{SHT_DYNSYM, SHT_SYMTAB}
use Rattle.elf_format.specs.Image.{Image}
use Rattle.elf_image_symbols.specs.EditedList.{EditedList}
use Rattle.elf_image.specs.Complete.{AreRelocated, IsFirstThere}
use Rattle.elf_image.specs.Kept.{kept_sections}
use Rattle.elf_image.specs.Names.{are_names_changed}
use Rattle.elf_image.specs.Relocated.{is_symbol_used}
use Rattle.elf_image.specs.Renumbering.{can_renumber}
use Rattle.elf_image.specs.Staying.{table_number}
use Rattle.elf_image.specs.SymbolsRead.{OfRead}

-- the image with these dynamic symbols
abbrev pub with_dynamic_symbols : EditedList → Image → Image
with_dynamic_symbols edited image = record image { changed = true; dynamic_symbols = edited.symbols; dynamic_symbol_numbers = edited.numbers }

-- the image with these static symbols
abbrev pub with_static_symbols : EditedList → Image → Image
with_static_symbols edited image = record image { changed = true; symbols = edited.symbols; symbol_numbers = edited.numbers }

-- An edit of the dynamic symbols that an image has: of the symbols that were read; some may have gone, but for the first and those
-- that a relocation of a section that is there names; with other names, or some of them gone, only where hash tables and relocations
-- can follow.
pub record IsPutFor (image : Image) (edited : EditedList) : Type 0 where
  pub read : OfRead image (λ read. edited.read ≡ read.dynamic_symbols)
  pub there : All (Contains image.dynamic_symbol_numbers) edited.numbers
  pub first : IsFirstThere image.dynamic_symbols edited.numbers
  pub relocated : AreRelocated image (table_number SHT_DYNSYM image) edited.numbers
  pub names : OfRead image (λ read. are_names_changed read (with_dynamic_symbols edited image) ≡ true → can_renumber image ≡ true)

-- An edit of the static symbols that an image has, as of dynamic symbols; but other tables don't name static ones.
pub record IsStaticPutFor (image : Image) (edited : EditedList) : Type 0 where
  pub read : OfRead image (λ read. edited.read ≡ read.symbols)
  pub there : All (Contains image.symbol_numbers) edited.numbers
  pub first : IsFirstThere image.symbols edited.numbers
  pub relocated : AreRelocated image (table_number SHT_SYMTAB image) edited.numbers

-- no relocation of a section that is there names the symbol that was read at a number into the first table of a type (gABI,
-- Relocation, r_info)
abbrev pub IsUnnamed : ℕ → ℕ → Image → Type 0
IsUnnamed type number image = is_symbol_used image.form (table_number type image) (number ∷ []) (kept_sections image) ≡ false
