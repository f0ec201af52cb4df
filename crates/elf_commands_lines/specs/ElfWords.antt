-- What the words of several edits of an ELF file on one line mean.
use Rattle.std.specs.Prelude.{List, Option, Some, None, Result, Ok, Err}
use Rattle.elf_edits.specs.Edit.{Edit}
use Rattle.elf_symbol_edits.specs.SymbolEdit.{SymbolEdit}
use Rattle.command_words.specs.Groups.{Wrong, edits_by, group_edit, no_edit}
use Rattle.command_words.specs.Rows.{Text}
use Rattle.command_words.specs.declared.edits.EditFault.{EditFault}
use Rattle.elf_commands_lines.specs.Groups.{GroupEdit, plain, symbols}
use Rattle.elf_commands_lines.specs.Meaning.{ElfMeaning, Reading, edit_elf, elf_lines, symbols_elf}

-- the edit that a batch takes, and the one of symbols or sections, that a command asks for
abbrev pub elf_edit_asked : ElfMeaning → Option Edit
elf_edit_asked (edit_elf edit path) = Some edit
elf_edit_asked _ = None

abbrev pub symbols_asked : ElfMeaning → Option SymbolEdit
symbols_asked (symbols_elf edit path) = Some edit
symbols_asked _ = None

-- the edit that a command asks for; the others ask for several, for one by what is found, or for none
abbrev pub group_edit_asked : ElfMeaning → Option GroupEdit
group_edit_asked (edit_elf edit path) = Some (plain edit)
group_edit_asked (symbols_elf edit path) = Some (symbols edit)
group_edit_asked _ = None

-- the edit of a command that asks for one
abbrev pub one_edit : Option GroupEdit → Result GroupEdit Wrong
one_edit (Some edit) = Ok edit
one_edit None = Err no_edit

abbrev pub edit_asked : ElfMeaning → Result GroupEdit Wrong
edit_asked meaning = one_edit (group_edit_asked meaning)

-- the edit of what a command asks for with its values
abbrev pub elf_edit : Reading → Result GroupEdit Wrong
elf_edit (Ok meaning) = edit_asked meaning
elf_edit (Err wrong) = Err wrong

-- the edit that a group of words names
abbrev pub elf_group_edit : List Text → Result GroupEdit Wrong
elf_group_edit words = group_edit elf_edit elf_lines words

-- the edits that words name, which are cut into groups at each `+`
abbrev pub elf_edits_of : List Text → Result (List GroupEdit) EditFault
elf_edits_of words = edits_by elf_group_edit words
