-- What is said of lines that aren't run.
use Rattle.std.specs.Prelude.{ℕ, ◌≡◌, ◌++◌, codes, decimal, string_bytes}
use Rattle.arwen_cli_install_names.specs.Line.{NameRefusal, name_refused_model}
use Rattle.arwen_cli_install_names.specs.Line.NameRefusal.{no_file as names_none, several_files as names_several}
use Rattle.arwen_cli_install_names.specs.declared.line.NameLineError.{NameLineError}
use Rattle.arwen_cli_install_names.specs.declared.line.NameLineError.TheVariants as name_error
use Rattle.arwen_cli_patchelf_lines.specs.Refusals.{Refusal, refused_model}
use Rattle.arwen_cli_patchelf_lines.specs.Refusals.Refusal.{absent, no_file, set_and_add, several_files}
use Rattle.arwen_cli_patchelf_lines.specs.declared.line.LineError.{LineError}
use Rattle.arwen_cli_patchelf_lines.specs.declared.line.LineError.TheVariants as error
use Rattle.arwen_cli_patchelf_lines.specs.declared.name_maps.MapWrong.{MapWrong}
use Rattle.arwen_cli_patchelf_lines.specs.declared.name_maps.MapWrong.TheVariants.{OneName, Twice, Version}
use Rattle.arwen_cli_patchelf_lines.specs.declared.values.ValueCause.{ValueCause}
use Rattle.arwen_cli_patchelf_lines.specs.declared.values.ValueCause.TheVariants as cause
use Rattle.arwen_cli_patchelf_lines.specs.declared.values.ValueRefused.{ValueRefused}
use Rattle.arwen_cli_options.specs.Options.{Text}
use Rattle.arwen_cli_options.specs.declared.options.LineFault.{LineFault}
use Rattle.arwen_cli_options.specs.declared.options.LineFault.TheVariants as fault
use Rattle.arwen_cli_tools.specs.declared.ending.Ending.{Ending}
use Rattle.arwen_cli_tools.specs.declared.ending.Ending.TheVariants.{Failed, Told}
use Rattle.arwen_cli_tools.specs.declared.texts.Sayings.{Sayings}

-- ## Words that are no line to run

abbrev pub unknown_line : Text → Text → Text
unknown_line tool word = tool ++ (codes ": unknown option " ++ word)

abbrev pub missing_line : Text → Text → Text
missing_line tool option = tool ++ (codes ": a value is missing behind " ++ option)

-- a line ends with the text that it asks for, or with what is wrong with its words
abbrev pub EndsWords : Sayings → LineFault → Ending → Type 0
EndsWords said fault.Help (Told text) = string_bytes text ≡ said.help.now
EndsWords said fault.Version (Told text) = string_bytes text ≡ said.version.now
EndsWords said (fault.Unknown word) (Failed line) = string_bytes line ≡ unknown_line said.name.now word.now
EndsWords said (fault.Missing option) (Failed line) = string_bytes line ≡ missing_line said.name.now option.now
EndsWords said _ _ = ⊥

-- ## Lines of patchelf

unfoldable pub refusal_line : Refusal → Text
refusal_line (absent option) = codes "patchelf: " ++ (option ++ codes " is absent here")
refusal_line no_file = codes "patchelf: no file is named"
refusal_line several_files = codes "patchelf: --output takes one file"
refusal_line set_and_add = codes "patchelf: --set-rpath and --add-rpath exclude each other"

-- what is wrong with a line of a map of names
abbrev pub map_words : MapWrong → Text
map_words OneName = codes "an old name without a new one"
map_words Twice = codes "this old name stands on a line before"
map_words Version = codes "a name with a version"

-- why a value wasn't read; the error of a system has a text of its own
abbrev pub TellsIo : Text → Type 0
TellsIo text = (why : Text) × (text ≡ codes "getting info about the file: " ++ why)

abbrev pub map_line : MapWrong → ℕ → Text
map_line wrong number = codes "line " ++ (decimal number ++ (codes ": " ++ map_words wrong))

abbrev pub TellsCause : ValueCause → Text → Type 0
TellsCause (cause.Io e) text = TellsIo text
TellsCause cause.NotText text = text ≡ codes "not UTF-8 text"
TellsCause (cause.Map wrong number) text = text ≡ map_line wrong number
TellsCause cause.Memory text = ⊥

abbrev pub value_line : Text → Text → Text → Text
value_line option path why = codes "patchelf: " ++ (option ++ (codes ": " ++ (path ++ (codes ": " ++ why))))

abbrev pub TellsValue : ValueRefused → Text → Type 0
TellsValue refused line =
    (why : Text) × TellsCause refused.cause why × (line ≡ value_line refused.option.now refused.path.now why)

-- how a line ends that isn't read
abbrev pub EndsUnread : Sayings → LineError → Ending → Type 0
EndsUnread said (error.Words fault) ending = EndsWords said fault ending
EndsUnread said (error.Refused refused) (Failed line) = string_bytes line ≡ refusal_line (refused_model refused)
EndsUnread said (error.Value refused) (Failed line) = TellsValue refused (string_bytes line)
EndsUnread said _ _ = ⊥

-- ## Lines of install_name_tool

unfoldable pub name_refusal_line : NameRefusal → Text
name_refusal_line names_none = codes "install_name_tool: no file is named"
name_refusal_line names_several = codes "install_name_tool: more than one file is named"

abbrev pub EndsUnreadNames : Sayings → NameLineError → Ending → Type 0
EndsUnreadNames said (name_error.Words fault) ending = EndsWords said fault ending
EndsUnreadNames said (name_error.Refused refused) (Failed line) = string_bytes line ≡ name_refusal_line (name_refused_model refused)
EndsUnreadNames said _ _ = ⊥
