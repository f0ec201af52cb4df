-- What the code's edits and texts stand for, as other crates cite it.
pub use Rattle.elf_edits.specs.Edit.{edit_model}
pub use Rattle.elf_edits.specs.TextModel.{Bytes, bytes_of, pair_model, pairs_model, texts_model}
