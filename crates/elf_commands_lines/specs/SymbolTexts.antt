-- An edit of symbols or sections, with its texts.
use Rattle.elf_edits.specs.TextModel.{pairs_model, texts_model}
use Rattle.elf_symbol_edits.specs.SymbolEdit.{DeleteAllSymbols, DeleteSections, RenameAllSymbols, RenameSections, SymbolEdit}
use Rattle.elf_commands_lines.specs.declared.symbol_texts.SymbolTexts.{SymbolTexts}
use Rattle.elf_commands_lines.specs.declared.symbol_texts.SymbolTexts.TheVariants as texts

abbrev pub symbol_texts_model : SymbolTexts → SymbolEdit
symbol_texts_model (texts.RenameSymbols pairs) = RenameAllSymbols (pairs_model pairs.items)
symbol_texts_model (texts.DeleteSymbols names) = DeleteAllSymbols (texts_model names.items)
symbol_texts_model (texts.RenameSections pairs) = RenameSections (pairs_model pairs.items)
symbol_texts_model (texts.DeleteSections names) = DeleteSections (texts_model names.items)
