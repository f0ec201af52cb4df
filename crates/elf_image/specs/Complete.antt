-- What is there of an image leans on nothing that went.
use Rattle.std.specs.Prelude.{ℕ, ◌≡◌, ◌<◌, ◌⊎◌, List, [], length, drop, All, Contains, Bool, true, ◌||◌, ◌==◌, IsSome, Option, Some, None, nat_le, is_some}
use Rattle.std.specs.List.{slice_get}
use Rattle.patch_bytes.specs.Memory.{◌>>=◌}
use Rattle.elf_format.specs.declared.constants.TheConstants.{PT_INTERP, SHN_LORESERVE, SHT_DYNSYM, SHT_SYMTAB}
use Rattle.elf_format.specs.File.{segment_of_type}
use Rattle.elf_format.specs.Image.{Image}
use Rattle.elf_format.specs.Views.{NamedSymbol}
use Rattle.elf_image.specs.Kept.{KeptSection, interpreter_number, kept_at_number, kept_of_type, kept_sections}
use Rattle.elf_image.specs.Names.{are_names_changed}
use Rattle.elf_image.specs.Needed.{is_lasting, names_section}
use Rattle.elf_image.specs.Relocated.{names_symbol}
use Rattle.elf_image.specs.Renumbering.{can_renumber}
use Rattle.elf_image.specs.Staying.{table_number}

-- the symbol's section is there, or it has none: a number from SHN_LORESERVE on is no section's (gABI, Symbol Table, st_shndx)
abbrev pub has_section : Image → NamedSymbol → Bool
has_section image y = y.st_shndx == 0 || nat_le SHN_LORESERVE y.st_shndx || is_some (kept_at_number y.st_shndx image)

-- the first is still the first, where there was one
abbrev pub IsFirstThere : {A : Type 0} → List A → List ℕ → Type 0
IsFirstThere read numbers = 0 < length read → slice_get numbers 0 ≡ Some 0

-- a relocation of a section that is there names symbol 0, or a symbol that is there, of the table with a number (gABI, Relocation)
abbrev pub AreRelocated : Image → Option ℕ → List ℕ → Type 0
AreRelocated image table numbers = (s : KeptSection) (number : ℕ) → Contains (kept_sections image) s
    → names_symbol image.form table number s.section ≡ true → (number ≡ 0) ⊎ Contains numbers number

pub record IsComplete (read image : Image) : Type 0 where
  -- the sections by which a file is read, and those that a section which is there names, are there
  pub lasting : (s : KeptSection) → Contains (kept_sections read) s → is_lasting read s ≡ true → IsSome (kept_at_number s.number image)
  pub linked : (s t : KeptSection) → Contains (kept_sections image) s → Contains (kept_sections read) t
      → names_section s.section t.number ≡ true → IsSome (kept_at_number t.number image)
  -- the first of each list of symbols stays the first; the static ones go with their table
  pub first_dynamic : IsFirstThere read.dynamic_symbols image.dynamic_symbol_numbers
  pub first_static : IsSome (kept_of_type SHT_SYMTAB image) → IsFirstThere read.symbols image.symbol_numbers
  pub no_static : kept_of_type SHT_SYMTAB image ≡ None → image.symbols ≡ []
  -- the section in which a symbol is defined is there; of the first static symbol none is asked
  pub dynamic_sections : All (λ y. has_section image y ≡ true) image.dynamic_symbols
  pub static_sections : All (λ y. has_section image y ≡ true) (drop 1 image.symbols)
  -- the symbols that relocations name are there
  pub dynamic_relocated : AreRelocated image (table_number SHT_DYNSYM image) image.dynamic_symbol_numbers
  pub static_relocated : AreRelocated image (table_number SHT_SYMTAB image) image.symbol_numbers
  -- names of dynamic symbols changed only where hash tables and relocations can follow
  pub tables : are_names_changed read image ≡ true → can_renumber image ≡ true
  -- the interpreter goes with its section and its program header
  pub interpreter : is_some image.interpreter ≡ is_some (segment_of_type PT_INTERP image.segments)
  pub interpreter_section : IsSome image.interpreter → IsSome (interpreter_number read >>= λ number. kept_at_number number image)
