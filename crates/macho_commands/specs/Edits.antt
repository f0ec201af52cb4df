-- What the words of several edits of a Mach-O file on one line mean.
use Rattle.std.specs.Prelude.{List, Option, Some, None, Result, Ok, Err}
use Rattle.macho_edits.specs.Call.{Call}
use Rattle.command_words.specs.Groups.{Wrong, edits_by, group_edit, no_edit}
use Rattle.macho_commands.specs.Meaning.{MachoMeaning, apply, batch, edit, macho_lines, sign, verify}
use Rattle.command_words.specs.Rows.{Text}
use Rattle.command_words.specs.declared.edits.EditFault.{EditFault}

-- the edit that a command asks for; `apply` and a batch ask for several, `sign` and `verify` for none
abbrev pub edit_asked : MachoMeaning → Option Call
edit_asked (edit call path) = Some call
edit_asked (apply path words) = None
edit_asked (batch path calls) = None
edit_asked (sign path) = None
edit_asked (verify path) = None

-- the edit of a command that asks for one
abbrev pub one_edit : Option Call → Result Call Wrong
one_edit (Some call) = Ok call
one_edit None = Err no_edit

-- the edit of what a command asks for
abbrev pub macho_edit : MachoMeaning → Result Call Wrong
macho_edit meaning = one_edit (edit_asked meaning)

-- the edit that a group of words names
abbrev pub macho_group_edit : List Text → Result Call Wrong
macho_group_edit words = group_edit macho_edit macho_lines words

-- the edits that words name, which are cut into groups at each `+`
abbrev pub edits_of : List Text → Result (List Call) EditFault
edits_of words = edits_by macho_group_edit words
