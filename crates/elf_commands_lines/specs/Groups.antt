-- Edits that groups of words name: of the list and the other parts that a batch edits, or of symbols and sections.
use Rattle.std.specs.Prelude.{Bool, true, false, List, [], ◌∷◌, map}
use Rattle.elf_edits.specs.Edit.{Edit}
use Rattle.elf_edits.specs.EditModel.{edit_model}
use Rattle.elf_edits.specs.declared.edit.ElfEdit.{ElfEdit}
use Rattle.elf_symbol_edits.specs.SymbolEdit.{SymbolEdit}
use Rattle.elf_commands_lines.specs.SymbolTexts.{symbol_texts_model}
use Rattle.elf_commands_lines.specs.declared.groups.GroupEdit.{GroupEdit as GroupHeld}
use Rattle.elf_commands_lines.specs.declared.groups.GroupEdit.TheVariants as held

-- an edit that a batch takes, or one of symbols or sections
pub data GroupEdit : Type 0 where
  plain : Edit → GroupEdit
  symbols : SymbolEdit → GroupEdit

abbrev pub group_model : GroupHeld → GroupEdit
group_model (held.Plain edit) = plain (edit_model edit)
group_model (held.Symbols texts) = symbols (symbol_texts_model texts)

-- the edits of a list that a batch takes
abbrev pub plain_of : List GroupEdit → List Edit
plain_of [] = []
plain_of (plain edit ∷ rest) = edit ∷ plain_of rest
plain_of (symbols edit ∷ rest) = plain_of rest

-- whether one of a list is of symbols or sections, which no batch takes
abbrev pub has_symbols : List GroupEdit → Bool
has_symbols [] = false
has_symbols (plain edit ∷ rest) = has_symbols rest
has_symbols (symbols edit ∷ rest) = true

-- what a list of edits for a batch stands for
abbrev pub edits_model : List ElfEdit → List Edit
edits_model edits = map edit_model edits
