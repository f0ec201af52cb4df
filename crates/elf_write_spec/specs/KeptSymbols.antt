-- The symbols that were read, by their numbers, in a written file.
use Rattle.std.specs.Prelude.{ℕ, ◌≡◌, length, map, ◌==◌, Some, IsTrue, if◌then◌else◌}
use Rattle.std.specs.List.{slice_get}
use Rattle.elf_format.specs.declared.constants.TheConstants.{SHT_DYNSYM, SHT_SYMTAB}
use Rattle.elf_format.specs.Image.{Image, ImageSection}
use Rattle.elf_format.specs.Records.{relocations_in}
use Rattle.elf_format.specs.Views.{NamedSymbol}
use Rattle.elf_image.specs.Relocated.{are_relocations, is_against}
use Rattle.elf_image.specs.Staying.{table_number}
use Rattle.elf_write_spec.specs.Renumbered.{renumbered}
use Rattle.elf_write_spec.specs.Final.{final_symbol, new_dynamic_symbol, new_static_symbol}

-- the number by which a relocation of a section names its symbol once the file is written; none is named by 0
abbrev pub new_symbol_for : Image → Image → ImageSection → ℕ → ℕ
new_symbol_for read image s number =
    if number == 0 then 0
    else if is_against (table_number SHT_DYNSYM image) s then new_dynamic_symbol read image number
    else if is_against (table_number SHT_SYMTAB image) s then new_static_symbol image number
    else number

-- A section's relocations name the same symbols as before, by their new numbers; each has its offset, its type and its addend.
abbrev pub AreRelocationsKept : Image → Image → Image → ImageSection → ImageSection → Type 0
AreRelocationsKept read image again s now = IsTrue (are_relocations s.kind)
    → relocations_in again.form now.sh_type now.content
    ≡ map (renumbered (new_symbol_for read image s)) (relocations_in image.form s.sh_type s.content)

-- what has a number in the written file is the dynamic symbol of the image that gets it
pub record IsDynamicSymbolOf (read image : Image) (new : ℕ) (z : NamedSymbol) : Type 0 where
  pub position : ℕ
  pub number : ℕ
  pub symbol : NamedSymbol
  pub is_number : slice_get image.dynamic_symbol_numbers position ≡ Some number
  pub is_symbol : slice_get image.dynamic_symbols position ≡ Some symbol
  pub is_new : new_dynamic_symbol read image number ≡ new
  pub is_final : z ≡ final_symbol image symbol

-- Each symbol of the image stands in the written file at its new number, and no other stands there.
pub record AreSymbolsKept (read image again : Image) : Type 0 where
  -- by the number at which it was read
  pub there : (i number : ℕ) (y : NamedSymbol) → slice_get image.dynamic_symbol_numbers i ≡ Some number
      → slice_get image.dynamic_symbols i ≡ Some y
      → slice_get again.dynamic_symbols (new_dynamic_symbol read image number) ≡ Some (final_symbol image y)
  -- as many dynamic symbols are there, and each of them is one of the image's: so each stands once
  pub count : length again.dynamic_symbols ≡ length image.dynamic_symbols
  pub each : (new : ℕ) (z : NamedSymbol) → slice_get again.dynamic_symbols new ≡ Some z → IsDynamicSymbolOf read image new z
  -- the static ones keep their order
  pub static_count : length again.symbols ≡ length image.symbols
  pub static_order : (i : ℕ) (y : NamedSymbol) → slice_get image.symbols i ≡ Some y → slice_get again.symbols i ≡ Some (final_symbol image y)
  pub static_there : (i number : ℕ) (y : NamedSymbol) → slice_get image.symbol_numbers i ≡ Some number → slice_get image.symbols i ≡ Some y
      → slice_get again.symbols (new_static_symbol image number) ≡ Some (final_symbol image y)
