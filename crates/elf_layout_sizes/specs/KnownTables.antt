-- What is known of a string table before the sizes are computed.
use Rattle.std.specs.Prelude.{ℕ, ◌≡◌, Some, IsTrue, MatchOption}
use Rattle.elf_format.specs.Image.{Image}
use Rattle.elf_image.specs.Kept.{dynamic_strings_number}
use Rattle.elf_layout_plan.specs.Texts.{is_table_copied}
use Rattle.elf_layout_sizes.specs.MadeTables.{IsMade}
use Rattle.elf_layout_sizes.specs.declared.known.Known.{Known}

-- the table that had that number is copied, or made anew and this one
pub record IsKnownTable (read image : Image) (number : ℕ) (known : Known) : Type 0 where
  pub numbered : known.number ≡ number
  pub table : MatchOption known.made (IsTrue (is_table_copied read image number)) (IsMade read image number)

-- what is known of the table of the dynamic strings: it is copied, or made anew and this one
pub record IsKnown (read image : Image) (known : Known) : Type 0 where
  pub linked : dynamic_strings_number image ≡ Some known.number
  pub table : MatchOption known.made (IsTrue (is_table_copied read image known.number)) (IsMade read image known.number)
