pub mod NamePlaces
pub mod SymbolSteps
pub use Rattle.elf_write_strings.specs.declared.made.Made
pub use Rattle.elf_write_strings.specs.MadeTables
pub use Rattle.elf_write_strings.specs.PlacedTexts
pub use Rattle.elf_write_strings.specs.Staying
pub use Rattle.elf_write_strings.specs.VersionPlaces
pub use Rattle.elf_write_strings.specs.WrittenStrings
pub use Rattle.elf_image_symbols.specs.TableSymbols
pub use Rattle.elf_write_symbols.specs.Fits
pub use Rattle.elf_write_symbols.specs.Found
pub use Rattle.elf_write_symbols.specs.NewSections
pub use Rattle.elf_write_symbols.specs.Renumbering
pub use Rattle.elf_write_symbols.specs.Versions
pub use Rattle.elf_write_symbols.specs.declared.numbers.NewNumbers
pub use Rattle.elf_write_symbols.specs.declared.renumbering.Renumbering as RenumberingRecord
pub use Rattle.elf_write_symbols.specs.declared.renumbering.Reordering
