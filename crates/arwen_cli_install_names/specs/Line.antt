-- What a line of install_name_tool asks for.
use Rattle.std.specs.Prelude.{◌≡◌, List, [], ◌∷◌, map, Result, Ok, Err, codes}
use Rattle.std.specs.Borrow.{Bor}
use Rattle.arwen_cli_options.specs.Options.{Asked, TellsWrong, Text, given_model, line_of, values_of}
use Rattle.arwen_cli_options.specs.Tables.{install_name_tool_known}
use Rattle.arwen_cli_install_names.specs.declared.line.NameLine.{NameLine}
use Rattle.arwen_cli_install_names.specs.declared.line.NameLineError.{NameLineError}
use Rattle.arwen_cli_install_names.specs.declared.line.NameLineError.TheVariants as error
use Rattle.arwen_cli_install_names.specs.declared.line.NameRefused.{NameRefused}
use Rattle.arwen_cli_install_names.specs.declared.line.NameRefused.TheVariants as told

-- why a line isn't done: no file is named, or more than one
pub data NameRefusal : Type 0 where
  no_file : NameRefusal
  several_files : NameRefusal

abbrev pub name_refused_model : NameRefused → NameRefusal
name_refused_model told.NoFile = no_file
name_refused_model told.SeveralFiles = several_files

-- the one file of these
abbrev pub one_file : List Text → Result Text NameRefusal
one_file [] = Err no_file
one_file (path ∷ []) = Ok path
one_file (path ∷ next ∷ rest) = Err several_files

-- the file of a line that gives this
abbrev pub file_given : List Asked → Result Text NameRefusal
file_given given = one_file (values_of (codes "FILE") given)

-- What a line's words ask for: options in order, and a file.
pub record ReadsNames (words : List Text) (line : NameLine) : Type 0 where
  pub given : line_of install_name_tool_known words ≡ Ok (map given_model line.given.items)
  pub path : file_given (map given_model line.given.items) ≡ Ok line.path.now

-- a refusal of what words give
pub record RefusesNames (words : List Text) (refused : NameRefused) : Type 0 where
  pub given : List Asked
  pub are_given : line_of install_name_tool_known words ≡ Ok given
  pub refusal : file_given given ≡ Err (name_refused_model refused)

-- an error tells the first cause, or want of memory
abbrev pub TellsNames : List Text → NameLineError → Type 0
TellsNames words (error.Words fault) = TellsWrong (line_of install_name_tool_known words) fault
TellsNames words (error.Refused refused) = RefusesNames words refused

-- what a path answers
abbrev pub path_told : Result (Bor Text) NameRefused → Result Text NameRefusal
path_told (Ok path) = Ok path.now
path_told (Err refused) = Err (name_refused_model refused)

-- the line of what is given, or why there is none
abbrev pub IsNameLine : List Asked → NameLine → Type 0
IsNameLine given line = (map given_model line.given.items ≡ given) × (file_given given ≡ Ok line.path.now)

abbrev pub TellsRefusal : List Asked → NameLineError → Type 0
TellsRefusal given (error.Words fault) = ⊥
TellsRefusal given (error.Refused refused) = file_given given ≡ Err (name_refused_model refused)
