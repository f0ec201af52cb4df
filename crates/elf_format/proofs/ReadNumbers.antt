-- An image has a number at read for each of its sections and symbols.
use Rattle.std.proofs.Common.{◌≡◌, ℕ, List, length, refl, ap, ◌∙◌, Ok}
use Rattle.elf_format.specs.Image.{Image, image_of}
use Rattle.elf_format.specs.ReadNumbers.{NumbersAreThere}
use Rattle.elf_format.specs.Rules.{accepted_parts}
use Rattle.elf_format.proofs.ImageShows.{image_from}
use Rattle.elf_format.proofs.ImageTexts.{image_made}
use Rattle.elf_format.proofs.Lengths.{length-counted}

pub sections_numbered : (file : List ℕ) (image : Image) → image_of file ≡ Ok image → length image.section_numbers ≡ length image.sections
sections_numbered file image h =
    let (p, _, made) = image_from file image h (accepted_parts file) refl in
    ap length (image_made p image made).section_numbers ∙ length-counted (length image.sections)

pub symbols_numbered : (file : List ℕ) (image : Image) → image_of file ≡ Ok image → length image.symbol_numbers ≡ length image.symbols
symbols_numbered file image h =
    let (p, _, made) = image_from file image h (accepted_parts file) refl in
    ap length (image_made p image made).symbol_numbers ∙ length-counted (length image.symbols)

pub dynamic_symbols_numbered : (file : List ℕ) (image : Image) → image_of file ≡ Ok image → length image.dynamic_symbol_numbers ≡ length image.dynamic_symbols
dynamic_symbols_numbered file image h =
    let (p, _, made) = image_from file image h (accepted_parts file) refl in
    ap length (image_made p image made).dynamic_symbol_numbers ∙ length-counted (length image.dynamic_symbols)

pub numbers_there : NumbersAreThere
numbers_there = record {
  sections = sections_numbered;
  symbols = symbols_numbered;
  dynamic_symbols = dynamic_symbols_numbered;
}
