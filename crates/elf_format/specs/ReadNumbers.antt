-- The numbers at read: one for each section and each symbol.
use Rattle.std.specs.Prelude.{ℕ, ◌≡◌, List, length, Ok}
use Rattle.elf_format.specs.Image.{Image, image_of}

pub record NumbersAreThere : Type 0 where
  pub sections : (file : List ℕ) (image : Image) → image_of file ≡ Ok image → length image.section_numbers ≡ length image.sections
  pub symbols : (file : List ℕ) (image : Image) → image_of file ≡ Ok image → length image.symbol_numbers ≡ length image.symbols
  pub dynamic_symbols : (file : List ℕ) (image : Image) → image_of file ≡ Ok image → length image.dynamic_symbol_numbers ≡ length image.dynamic_symbols
