-- Relocations before and after, with bytes as a linker writes them, and numbers that don't fit. Each row is computed.
use Rattle.std.specs.Prelude.{ℕ, ◌≡◌, List, [], ◌∷◌, map, true, false, Some, None}
use Rattle.patch_bytes.specs.declared.number.ByteOrder2.TheVariants.{Big, Little}
use Rattle.patch_bytes.specs.declared.number.Wide.TheVariants.{W32, W64}
use Rattle.elf_format.specs.declared.constants.TheConstants.{SHT_REL, SHT_RELA}
use Rattle.elf_format.specs.declared.form.Form.{Form}
use Rattle.elf_format.specs.Records.{Relocation, relocations_in}
use Rattle.elf_write_spec.specs.Renumbered.{do_relocations_fit, are_symbols_below, new_symbol, renumbered}

abbrev pub wide : Form
wide = record { wide = W64; order = Little }

abbrev pub narrow : Form
narrow = record { wide = W32; order = Big }

-- the relocations of a section with new numbers
abbrev pub renumbered_in : Form → ℕ → List ℕ → List ℕ → List Relocation
renumbered_in form kind numbers bytes = map (renumbered (new_symbol numbers)) (relocations_in form kind bytes)

-- A 64-bit relocation with an addend, of type 6 at 0x3fd8, against a symbol.
abbrev pub wide_bytes : ℕ → List ℕ
wide_bytes symbol =
    0xd8 ∷ 0x3f ∷ 0 ∷ 0 ∷ 0 ∷ 0 ∷ 0 ∷ 0 ∷ 6 ∷ 0 ∷ 0 ∷ 0 ∷ symbol ∷ 0 ∷ 0 ∷ 0 ∷ 0x10 ∷ 0 ∷ 0 ∷ 0 ∷ 0 ∷ 0 ∷ 0 ∷ 0 ∷ []

pub record WideRows : Type 0 where
  pub before : relocations_in wide SHT_RELA (wide_bytes 2)
      ≡ record { r_offset = 0x3fd8; r_symbol = 2; r_type = 6; r_addend = Some 0x10 } ∷ []
  pub after : renumbered_in wide SHT_RELA (0 ∷ 2 ∷ 5 ∷ []) (wide_bytes 2) ≡ relocations_in wide SHT_RELA (wide_bytes 5)
  pub below : are_symbols_below wide SHT_RELA 3 (wide_bytes 2) ≡ true
  pub past : are_symbols_below wide SHT_RELA 2 (wide_bytes 2) ≡ false
  -- 32 bits are room enough for every number
  pub fits : do_relocations_fit wide SHT_RELA (0 ∷ 2 ∷ 0xffffffff ∷ []) (wide_bytes 2) ≡ true

-- Two 32-bit relocations without addends: of type 7 against a symbol, and of type 8 against none. Two bytes stand behind.
abbrev pub narrow_bytes : ℕ → List ℕ
narrow_bytes symbol = 0 ∷ 1 ∷ 0x20 ∷ 4 ∷ 0 ∷ 0 ∷ symbol ∷ 7 ∷ 0 ∷ 1 ∷ 0x20 ∷ 8 ∷ 0 ∷ 0 ∷ 0 ∷ 8 ∷ 9 ∷ 9 ∷ []

pub record NarrowRows : Type 0 where
  pub before : relocations_in narrow SHT_REL (narrow_bytes 3)
      ≡ record { r_offset = 0x12004; r_symbol = 3; r_type = 7; r_addend = None }
      ∷ record { r_offset = 0x12008; r_symbol = 0; r_type = 8; r_addend = None } ∷ []
  -- symbol 0 stays, whatever number stands for it
  pub after : renumbered_in narrow SHT_REL (4 ∷ 3 ∷ 2 ∷ 1 ∷ []) (narrow_bytes 3) ≡ relocations_in narrow SHT_REL (narrow_bytes 1)
  pub largest : do_relocations_fit narrow SHT_REL (0 ∷ 1 ∷ 2 ∷ 0xffffff ∷ []) (narrow_bytes 3) ≡ true
  -- a number of 25 bits
  pub overflow : do_relocations_fit narrow SHT_REL (0 ∷ 1 ∷ 2 ∷ 0x1000000 ∷ []) (narrow_bytes 3) ≡ false
  -- a number that no relocation names may be as large
  pub unnamed : do_relocations_fit narrow SHT_REL (0x1000000 ∷ 0x1000000 ∷ 2 ∷ 3 ∷ []) (narrow_bytes 3) ≡ true

-- All rows.
pub record RelocationRows : Type 0 where
  pub wide : WideRows
  pub narrow : NarrowRows
