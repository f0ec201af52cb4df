-- What a command for ELF files asks of the bytes of its file.
use Rattle.std.specs.Prelude.{Bool, true, false, List, [], ◌∷◌, ◌++◌, Option, Some, None, Result, Ok, Err}
use Rattle.elf_edits.specs.Edit.{AllowDynamicMove, Answer, ShrinkRpath}
use Rattle.elf_commands_lines.specs.Groups.{GroupEdit, plain, symbols}
use Rattle.elf_commands_lines.specs.ElfWords.{elf_edits_of}
use Rattle.command_words.specs.Rows.{Text}
use Rattle.elf_commands_lines.specs.Meaning.{ElfMeaning, apply_elf, apply_moving_elf, edit_elf, shrink_elf, symbols_elf}
use Rattle.command_words.specs.declared.edits.EditFault.{EditFault}

-- One edit, those that words name, that the run path shrinks with these prefixes, or nothing but to print.
pub data ElfAsked : Type 0 where
  one : GroupEdit → ElfAsked
  several : Result (List GroupEdit) EditFault → ElfAsked
  shrinking : List Text → ElfAsked
  printing : ElfAsked

-- edits that words name, with leave behind them that the dynamic section moves
abbrev pub with_leave : Result (List GroupEdit) EditFault → Result (List GroupEdit) EditFault
with_leave (Ok edits) = Ok (edits ++ plain AllowDynamicMove ∷ [])
with_leave (Err fault) = Err fault

abbrev pub elf_asked : ElfMeaning → ElfAsked
elf_asked (edit_elf edit path) = one (plain edit)
elf_asked (apply_elf path words) = several (elf_edits_of words)
elf_asked (apply_moving_elf path words) = several (with_leave (elf_edits_of words))
elf_asked (shrink_elf path prefixes) = shrinking prefixes
elf_asked (symbols_elf edit path) = one (symbols edit)
elf_asked _ = printing

-- what is asked for once it is known what was found for the directories of the run path and the needed libraries
abbrev pub answered : List Answer → ElfAsked → ElfAsked
answered answers (shrinking prefixes) = one (plain (ShrinkRpath prefixes answers))
answered answers asked = asked

-- the command prints, and edits nothing
abbrev pub is_printing : ElfAsked → Bool
is_printing printing = true
is_printing _ = false

-- edits are asked for by the command alone
abbrev pub asks_edits : ElfAsked → Bool
asks_edits (one edit) = true
asks_edits (several read) = true
asks_edits _ = false

-- these edits; none where words name none
abbrev pub edits_asked : ElfAsked → Option (List GroupEdit)
edits_asked (one edit) = Some (edit ∷ [])
edits_asked (several (Ok edits)) = Some edits
edits_asked _ = None
