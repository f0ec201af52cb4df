-- Words of lines that are no values by themselves, and what a line asks for that means no command.
use Rattle.std.specs.Prelude.{ℕ, ◌==◌, Bool, false, List, [], ◌∷◌, Option, Some, None}
use Rattle.std.specs.List.{list_any}
use Rattle.command_words.specs.Rows.{Text}
use Rattle.arwen_cli_parser.specs.declared.line_error.LineError.{LineError}
use Rattle.arwen_cli_parser.specs.declared.line_error.LineError.TheVariants as line

abbrev pub begins_with_hyphen : Text → Bool
begins_with_hyphen [] = false
begins_with_hyphen (first ∷ rest) = first == 45

-- some word begins with a hyphen, so that it may be an option or the mark behind which all words
-- are values
abbrev pub has_option : List Text → Bool
has_option words = list_any begins_with_hyphen words

-- the status that a line asks for with a text
abbrev pub asked_status : LineError → Option ℕ
asked_status (line.Text text status) = Some status
asked_status line.Memory = None
