-- What the parser of lines is told of a first word's commands, and what is made of what it finds.
use Rattle.std.specs.Prelude.{ℕ, ◌≡◌, Bool, true, false, List, [], ◌∷◌, Option, Some, None, Ok, Result, codes, map, not}
use Rattle.std.specs.Prelude.{option_and_then, option_map, unwrap_or}
use Rattle.std.specs.List.{list_all}
use Rattle.std.specs.Str.{bytes_eq}
use Rattle.clap.specs.Words.{App, Row, Rule, Shape, all_of, fault_of, first_of, new_app, new_rule}
use Rattle.clap.specs.Words.{is_simple_and_free, subcommand_of, subcommand_rows_of, with_rule}
use Rattle.clap.specs.declared.builder.command.Command.{Command}
use Rattle.clap.specs.declared.builder.command.Command.TheViews.{out-Command}
use Rattle.clap.specs.declared.builder.action.ArgAction.TheVariants.{Append}
use Rattle.clap.specs.declared.parser.matches.ArgMatches.{ArgMatches}
pub use Rattle.clap.specs.Lexer.{usize_max}
use Rattle.command_words.specs.Groups.{Wrong}
use Rattle.command_words.specs.Rows.{Given, Kind, Line, Named, Text, meant_with, named, named_of, options}
use Rattle.command_words.specs.Rows.{path, path_alone, path_and_options, path_and_words, text}
use Rattle.command_words.specs.Rows.{text_and_path, texts, texts_and_path, words}
use Rattle.command_words.specs.Rows.{given_model}
use Rattle.command_words.specs.declared.rows.Values.{Values}
use Rattle.std.specs.Borrow.{Bor}
use Rattle.arwen_cli_parser.specs.declared.line_error.LineError.{LineError}
use Rattle.arwen_cli_parser.specs.declared.line_error.LineError.TheVariants.{Memory}

-- ---- the commands

-- an argument of the command, or of one below it, is taken everywhere
abbrev pub has_globals : Command → Bool
has_globals c = (out-Command c).has_globals

-- a value that must be there; help calls it by a name of its own
abbrev pub value_rule : Text → Rule
value_rule id = record (new_rule id) { value_names = 1; required = true }

-- any number of values
abbrev pub values_rule : Text → Rule
values_rule id = record (new_rule id) {
  action = Some Append;
  range = Some (record { start_inclusive = 0; end_inclusive = usize_max });
  value_names = 1;
}

-- an option of these two names, with one value each time that it is given, and given any number of
-- times
abbrev pub option_rule : Text → Text → ℕ → Rule
option_rule id long short = record (new_rule id) {
  long = Some long;
  short = Some short;
  action = Some Append;
  value_names = 1;
}

-- the values by their places
abbrev pub path_id : Text
path_id = codes "path"

abbrev pub first_id : Text
first_id = codes "first"

abbrev pub second_id : Text
second_id = codes "second"

abbrev pub words_id : Text
words_id = codes "words"

-- the values of an option
abbrev pub options_id : Text
options_id = codes "options"

-- a command with such values
abbrev pub leaf_app : Text → Kind → App
leaf_app name path_alone = with_rule (new_app name) (value_rule path_id)
leaf_app name text_and_path =
    with_rule (with_rule (new_app name) (value_rule first_id)) (value_rule path_id)
leaf_app name texts_and_path =
    with_rule (with_rule (with_rule (new_app name) (value_rule first_id)) (value_rule second_id))
    (value_rule path_id)
leaf_app name path_and_words =
    with_rule (with_rule (new_app name) (value_rule path_id)) (values_rule words_id)
leaf_app name (path_and_options long short) =
    with_rule (with_rule (new_app name) (value_rule path_id)) (option_rule options_id long short)

abbrev pub leaf_of : Named → Shape
leaf_of row = (leaf_app row.name row.kind).top

-- a command that asks for a subcommand, and shows its help where no word is given
abbrev pub top_app : Text → App
top_app name = record (new_app name) {
  top = record (new_app name).top {
    subcommand_required = true;
    arg_required_else_help = true;
  };
}

-- the same with commands
abbrev pub line_app : Text → List Named → App
line_app name [] = top_app name
line_app name (row ∷ rows) = record (top_app name) {
  top = record (top_app name).top { is_leaf = false };
  subs = map leaf_of (row ∷ rows);
}

-- ---- what is made of the values that were found

abbrev pub with_path : Option Text → Option Given
with_path = option_map path

abbrev pub with_text : Option Text → Option Text → Option Given
with_text (Some value) (Some file) = Some (text value file)
with_text _ _ = None

abbrev pub with_texts : Option Text → Option Text → Option Text → Option Given
with_texts (Some first) (Some second) (Some file) = Some (texts first second file)
with_texts _ _ _ = None

abbrev pub with_words : Option Text → Option (List Text) → Option Given
with_words (Some file) list = Some (words file (unwrap_or list []))
with_words None list = None

abbrev pub with_options : Option Text → Option (List Text) → Option Given
with_options (Some file) list = Some (options file (unwrap_or list []))
with_options None list = None

abbrev pub found_values : Kind → List Row → Option Given
found_values path_alone rows = with_path (first_of path_id rows)
found_values text_and_path rows = with_text (first_of first_id rows) (first_of path_id rows)
found_values texts_and_path rows =
    with_texts (first_of first_id rows) (first_of second_id rows) (first_of path_id rows)
found_values path_and_words rows = with_words (first_of path_id rows) (all_of words_id rows)
found_values (path_and_options long short) rows =
    with_options (first_of path_id rows) (all_of options_id rows)

-- the command of a name that the parser found, with its values
abbrev pub found_by : List Named → Text → List Row → Option (Text × Given)
found_by table name rows = option_and_then (λ row. option_map (λ given. (row.name, given))
    (found_values row.kind rows)) (named table name)

-- the same of a command that may have been found
abbrev pub taken_in : List Named → Option (Text × List Row) → Option (Text × Given)
taken_in table = option_and_then (λ p. found_by table p.0 p.1)

-- the parser takes the words, and finds this command with these values
abbrev pub IsTaken : Text → List Named → List Text → Text × Given → Type 0
IsTaken first table list taken = (fault_of (line_app first table) list ≡ [])
    × (taken_in table (subcommand_of (line_app first table) list) ≡ Some taken)

-- no command is named as the parser's own, which prints help
abbrev pub has_no_help : List Named → Bool
has_no_help rows = list_all (λ row. not (bytes_eq (codes "help") row.name)) rows

-- a table of commands: at least one, and none of that name
abbrev pub is_table : List Named → Bool
is_table [] = false
is_table (row ∷ rows) = has_no_help (row ∷ rows)

-- ---- the commands of a table with their meaning

-- the parser takes the words, and the values that it finds ask for this
abbrev pub MeansBy : {M : Type 0} → Text → List (Line M) → List Text → M → Type 0
MeansBy first lines list meaning = (taken : Text × Given)
    × IsTaken first (map named_of lines) list taken
    × (meant_with lines taken.0 taken.1 ≡ Some meaning)

-- where the words mean a command, the error is want of memory
abbrev pub MayRefuse : {M : Type 0} → Text → List (Line M) → List Text → LineError → Type 0
MayRefuse {M} first lines list error = (meaning : M) → MeansBy first lines list meaning
    → error ≡ Memory

-- the same of commands that take not every value: the values that the parser finds ask for this
abbrev pub MeansTaken : {M : Type 0} → Text → List (Line (Result M Wrong)) → List Text → M → Type 0
MeansTaken first lines list meaning = MeansBy first lines list (Ok meaning)

-- where the words mean a command with values that it takes, the error is want of memory
abbrev pub MayRefuseTaken : {M : Type 0} → Text → List (Line (Result M Wrong)) → List Text → LineError
    → Type 0
MayRefuseTaken {M} first lines list error = (meaning : M) → MeansTaken first lines list meaning
    → error ≡ Memory

-- where values are what a command takes, the error is want of memory
abbrev pub MayRefuseReading : {M : Type 0} → Option (Result M Wrong) → LineError → Type 0
MayRefuseReading {M} read error = (meaning : M) → read ≡ Some (Ok meaning) → error ≡ Memory

-- ---- a parse that is told a command

-- it takes the words, and finds the command that they name
abbrev pub Matches : App → List Text → ArgMatches → Type 0
Matches app list found = is_simple_and_free app ≡ true
    → (fault_of app list ≡ []) × (subcommand_rows_of found ≡ subcommand_of app list)

-- a parse by a table takes the words, and finds the command that they name
abbrev pub MatchesBy : Text → List Named → List Text → ArgMatches → Type 0
MatchesBy first table list found = (fault_of (line_app first table) list ≡ [])
    × (subcommand_rows_of found ≡ subcommand_of (line_app first table) list)

-- where it takes the words, the error is want of memory
abbrev pub RefusesNone : App → List Text → LineError → Type 0
RefusesNone app list error = is_simple_and_free app ≡ true → fault_of app list ≡ []
    → error ≡ Memory

-- ---- what a parse by a table gives

-- a name with values
abbrev pub taken_model : Bor Text × Values → Text × Given
taken_model taken = (taken.0.now, given_model taken.1)

-- where the parser takes the words and finds a command with its values, the error is want of memory
abbrev pub MayRefuseValues : Text → List Named → List Text → LineError → Type 0
MayRefuseValues first table list error = (taken : Text × Given) → IsTaken first table list taken
    → error ≡ Memory

-- where a command was found with its values, the error is want of memory
abbrev pub MayRefuseFound : Option (Text × Given) → LineError → Type 0
MayRefuseFound found error = (taken : Text × Given) → found ≡ Some taken → error ≡ Memory
