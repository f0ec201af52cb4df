-- String tables that are made anew (gABI, String Table).
use Rattle.std.specs.Prelude.{ℕ, ◌≡◌, ◌≤◌, ◌<◌, ◌^◌, false, Some}
use Rattle.elf_format.specs.Image.{Image}
use Rattle.elf_layout_plan.specs.Strings.{IsTableOf, PlacesStand, Strings, table_length}
use Rattle.elf_image.specs.Kept.{dynamic_strings_number}
use Rattle.elf_layout_plan.specs.Texts.{is_table_copied, texts_in_use}

-- The table that had that number isn't copied, and this one holds the texts that the image uses of it.
pub record IsMade (read image : Image) (number : ℕ) (table : Strings) : Type 0 where
  pub anew : is_table_copied read image number ≡ false
  pub holds : IsTableOf (texts_in_use read image number) table
  pub stand : PlacesStand table
  -- each text has an offset of 32 bits
  pub fits : table_length (texts_in_use read image number) ≤ 2 ^ 32

-- The table that had that number isn't copied, and is longer than offsets of 32 bits reach.
pub record IsTooLong (read image : Image) (number : ℕ) : Type 0 where
  pub anew : is_table_copied read image number ≡ false
  pub long : 2 ^ 32 < table_length (texts_in_use read image number)

-- The table of an image's dynamic strings isn't copied, and this one holds the texts that the image uses of it.
pub record IsMadeOfDynamic (read image : Image) (table : Strings) : Type 0 where
  pub number : ℕ
  pub linked : dynamic_strings_number image ≡ Some number
  pub made : IsMade read image number table
