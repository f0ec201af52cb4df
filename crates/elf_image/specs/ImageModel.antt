-- The parts of an image, seen without where their bytes lie.
-- program headers, sections and the dynamic list
pub use Rattle.elf_image_headers.specs.PartModels.{entry_model, section_model, segment_model, text_model}
-- the versions of a file
pub use Rattle.elf_image_versions.specs.VersionsModel.{definition_model, name_model, needs_model}
-- the symbols of a file
pub use Rattle.elf_image_symbols.specs.SymbolModel.{symbol_model}
