-- What groups of words on one line mean, whatever kind of file their edits are of.
use Rattle.std.specs.Prelude.{◌≡◌, ◌+◌, ℕ, Bool, List, [], ◌∷◌, Option, Some, None, Result, Ok, Err}
use Rattle.std.specs.Prelude.{codes, if◌then◌else◌, length, min, option_and_then}
use Rattle.std.specs.List.{slice_split}
use Rattle.std.specs.Str.{bytes_eq}
use Rattle.command_words.specs.Rows.{Kind, Line, Named, Text, asked_with, count_of, given_without_path}
use Rattle.command_words.specs.Rows.{kind_of, line_named, named}
use Rattle.command_words.specs.declared.edits.EditFault.{EditFault}
use Rattle.command_words.specs.declared.edits.EditKind.{EditKind}
use Rattle.command_words.specs.declared.edits.EditKind.TheVariants.{Empty, UnknownEdit, WrongWords}
use Rattle.command_words.specs.declared.edits.EditsError.{EditsError}
use Rattle.command_words.specs.declared.edits.EditsError.TheVariants.{Fault, Memory}

-- ---- one group of words

-- what is wrong with a group: the kind, at which of its words, counted from 0, and how many words its
-- edit takes behind its name
pub record Wrong : Type 0 where
  pub kind : EditKind
  pub word : ℕ
  pub takes : ℕ

abbrev pub no_words : Wrong
no_words = record { kind = Empty; word = 0; takes = 0 }

abbrev pub no_edit : Wrong
no_edit = record { kind = UnknownEdit; word = 0; takes = 0 }

-- the first word that is missing or too many
abbrev pub other_words : Kind → List Text → Wrong
other_words kind words = record {
  kind = WrongWords;
  word = min (length words) (count_of kind) + 1;
  takes = count_of kind;
}

-- `edit_by` is the edit of what a command asks for, or what is wrong with it
module _ {M E : Type 0} (edit_by : M → Result E Wrong) where
  -- the edit of a command that takes such words, and the fault of one that doesn't
  abbrev pub given_edit : Kind → List Text → Option M → Result E Wrong
  given_edit kind words (Some meaning) = edit_by meaning
  given_edit kind words None = Err (other_words kind words)

  -- the edit of a command's line, with the words of the command but for its path
  abbrev pub line_edit : Option (Line M) → List Text → Result E Wrong
  line_edit None words = Err no_edit
  line_edit (Some line) words =
      if line.is_edit then given_edit (kind_of line.asks) words
      (option_and_then (asked_with line.asks) (given_without_path (kind_of line.asks) words))
      else Err no_edit

  -- the edit that a group names: its first word names a command, and the words behind it are the command's
  abbrev pub group_edit : List (Line M) → List Text → Result E Wrong
  group_edit lines [] = Err no_words
  group_edit lines (name ∷ words) = line_edit (line_named lines name) words

-- the row of an edit, and the words behind its name; no edit where the row is that of another command
abbrev pub edit_named : Option Named → List Text → Result (Named × List Text) Wrong
edit_named None words = Err no_edit
edit_named (Some row) words = if row.is_edit then Ok (row, words) else Err no_edit

-- the row of the edit that a group names by its first word, and the words behind it
abbrev pub row_asked : List Named → List Text → Result (Named × List Text) Wrong
row_asked rows [] = Err no_words
row_asked rows (name ∷ words) = edit_named (named rows name) words

-- ---- all groups

-- the word that stands between two groups
abbrev pub is_plus : Text → Bool
is_plus word = bytes_eq word (codes "+")

-- the fault of the group of this number
abbrev pub fault_at : ℕ → Wrong → EditFault
fault_at group wrong =
    record { group = group; kind = wrong.kind; word = wrong.word; takes = wrong.takes }

module _ {E : Type 0} where
  -- the edits behind one more edit
  abbrev pub behind : E → Result (List E) EditFault → Result (List E) EditFault
  behind edit (Ok edits) = Ok (edit ∷ edits)
  behind edit (Err fault) = Err fault

  -- the first fault counts, and `group` is the number of the first group
  abbrev pub then_edits : ℕ → Result E Wrong → Result (List E) EditFault → Result (List E) EditFault
  then_edits group (Ok edit) rest = behind edit rest
  then_edits group (Err wrong) rest = Err (fault_at group wrong)

  -- the edits of groups in order, of which the first has this number, where each group reads so
  unfoldable pub edits_from : (List Text → Result E Wrong) → ℕ → List (List Text)
      → Result (List E) EditFault
  edits_from read group [] = Ok []
  edits_from read group (words ∷ rest) =
      then_edits group (read words) (edits_from read (group + 1) rest)

  -- the edits that words name, which are cut into groups at each `+`
  abbrev pub edits_by : (List Text → Result E Wrong) → List Text → Result (List E) EditFault
  edits_by read words = edits_from read 0 (slice_split is_plus words)

  -- ---- what a call answers

  -- the error is the fault that the words have, or want of memory
  abbrev pub TellsFault : Result (List E) EditFault → EditsError → Type 0
  TellsFault meant (Fault fault) = meant ≡ Err fault
  TellsFault meant Memory = Unit {0}

  -- the error is the fault that the words of this group have
  abbrev pub IsWrong : ℕ → Result E Wrong → EditsError → Type 0
  IsWrong group meant e = (wrong : Wrong) × (meant ≡ Err wrong) × (e ≡ Fault (fault_at group wrong))

  -- the error is the fault that the words of this group have, or want of memory
  abbrev pub TellsWrong : ℕ → Result E Wrong → EditsError → Type 0
  TellsWrong group meant (Fault fault) = (wrong : Wrong) × (meant ≡ Err wrong)
      × (fault ≡ fault_at group wrong)
  TellsWrong group meant Memory = Unit {0}
