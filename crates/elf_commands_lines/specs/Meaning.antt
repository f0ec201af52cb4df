-- What a command for ELF files asks for, with its texts as bytes.
use Rattle.std.specs.Prelude.{ℕ, ◌||◌, ◌∷◌, [], Bool, List, Option, Some, None, Result, Ok, Err, codes, false, map, true}
use Rattle.std.specs.Prelude.{string_bytes}
use Rattle.std.specs.Str.{bytes_eq}
use Rattle.elf_edits.specs.Edit.{Edit, AddDebugTag, AddNeeded, AddRpath, ClearExecStack, ClearSymbolVersion, RemoveNeeded}
use Rattle.elf_edits.specs.Edit.{RemoveRpath, NoDefaultLib, RenameDynamicSymbols, ReplaceLibrary, ReplaceNeeded, SetExecStack}
use Rattle.elf_edits.specs.Edit.{SetInterpreter, SetOsAbi, SetPageSize, SetRpath, SetSoname, ForceRpath}
use Rattle.elf_symbol_edits.specs.SymbolEdit.{DeleteAllSymbols, DeleteSections, RenameAllSymbols, RenameSections, SymbolEdit}
use Rattle.command_words.specs.Groups.{Wrong}
use Rattle.command_words.specs.KeyValue.{decimal_number}
use Rattle.command_words.specs.Rows.{Asks, Line, Text, by_options, by_path, by_text, by_words}
use Rattle.command_words.specs.WordValues.{no_number, text_pair_model, pairs_from}
use Rattle.elf_commands_lines.specs.declared.command.ElfCommand.{ElfCommand}
use Rattle.elf_commands_lines.specs.declared.command.ElfCommand.TheVariants as elf

-- what is asked of the ELF file at a path: an edit, or the edits that words name, perhaps with leave that the dynamic section moves, or
-- that its run path shrinks, with the prefixes that are allowed, or an edit of symbols or sections, or something to print
pub data ElfMeaning : Type 0 where
  edit_elf : Edit → Text → ElfMeaning
  apply_elf : Text → List Text → ElfMeaning
  apply_moving_elf : Text → List Text → ElfMeaning
  shrink_elf : Text → List Text → ElfMeaning
  symbols_elf : SymbolEdit → Text → ElfMeaning
  print_rpath : Text → ElfMeaning
  print_needed : Text → ElfMeaning
  print_soname : Text → ElfMeaning
  print_interpreter : Text → ElfMeaning
  print_os_abi : Text → ElfMeaning
  print_exec_stack : Text → ElfMeaning

-- what a command asks for with its values, or what is wrong with them
abbrev pub Reading : Type 0
Reading = Result ElfMeaning Wrong

-- ---- values that not every word is

-- what a number asks for, and what pairs of texts do
abbrev pub number_read : (ℕ → ElfMeaning) → Option ℕ → Reading
number_read meaning (Some number) = Ok (meaning number)
number_read meaning None = Err no_number

abbrev pub pairs_read : (List (Text × Text) → ElfMeaning) → Result (List (Text × Text)) Wrong → Reading
pairs_read meaning (Ok pairs) = Ok (meaning pairs)
pairs_read meaning (Err wrong) = Err wrong

-- ---- the commands by their names

-- an edit by no value, a text, a number, texts, and pairs of texts
abbrev pub by_none : Edit → Asks Reading
by_none edit = by_path (λ path. Ok (edit_elf edit path))

abbrev pub by_one : (Text → Edit) → Asks Reading
by_one edit = by_text (λ value path. Ok (edit_elf (edit value) path))

abbrev pub by_number : (ℕ → Edit) → Asks Reading
by_number edit =
    by_text (λ value path. number_read (λ number. edit_elf (edit number) path) (decimal_number value))

abbrev pub by_many : (List Text → Edit) → Asks Reading
by_many edit = by_words (λ path words. Ok (edit_elf (edit words) path))

abbrev pub by_pairs : (List (Text × Text) → Edit) → Asks Reading
by_pairs edit =
    by_words (λ path words. pairs_read (λ pairs. edit_elf (edit pairs) path) (pairs_from 1 words))

-- an edit of symbols or sections by texts, and by pairs of texts
abbrev pub by_names : (List Text → SymbolEdit) → Asks Reading
by_names edit = by_words (λ path words. Ok (symbols_elf (edit words) path))

abbrev pub by_new_names : (List (Text × Text) → SymbolEdit) → Asks Reading
by_new_names edit =
    by_words (λ path words. pairs_read (λ pairs. symbols_elf (edit pairs) path) (pairs_from 1 words))

abbrev pub edit_line : Text → Asks Reading → Line Reading
edit_line name asks = record { name = name; is_edit = true; asks = asks }

-- the commands that `apply` does not take
abbrev pub other_line : Text → Asks Reading → Line Reading
other_line name asks = record { name = name; is_edit = false; asks = asks }

abbrev pub print_line : Text → (Text → ElfMeaning) → Line Reading
print_line name meaning = other_line name (by_path (λ path. Ok (meaning path)))

abbrev pub elf_lines : List (Line Reading)
elf_lines = edit_line (codes "add-debug-tag") (by_none AddDebugTag)
    ∷ edit_line (codes "clear-exec-stack") (by_none ClearExecStack)
    ∷ edit_line (codes "force-rpath") (by_none ForceRpath)
    ∷ edit_line (codes "no-default-lib") (by_none NoDefaultLib)
    ∷ edit_line (codes "remove-rpath") (by_none RemoveRpath)
    ∷ edit_line (codes "set-exec-stack") (by_none SetExecStack)
    ∷ edit_line (codes "add-rpath") (by_one (λ text. AddRpath (text ∷ [])))
    ∷ edit_line (codes "set-rpath") (by_one SetRpath)
    ∷ edit_line (codes "set-interpreter") (by_one SetInterpreter)
    ∷ edit_line (codes "set-os-abi") (by_one SetOsAbi)
    ∷ edit_line (codes "set-soname") (by_one SetSoname)
    ∷ edit_line (codes "set-page-size") (by_number SetPageSize)
    ∷ edit_line (codes "clear-symbol-version") (by_one ClearSymbolVersion)
    ∷ edit_line (codes "add-needed") (by_many AddNeeded)
    ∷ edit_line (codes "remove-needed") (by_many RemoveNeeded)
    ∷ edit_line (codes "replace-needed") (by_pairs ReplaceNeeded)
    ∷ edit_line (codes "replace-library") (by_pairs ReplaceLibrary)
    ∷ edit_line (codes "rename-dynamic-symbols") (by_pairs RenameDynamicSymbols)
    ∷ other_line (codes "apply") (by_words (λ path words. Ok (apply_elf path words)))
    ∷ other_line (codes "shrink-rpath")
    (by_options (codes "allowed-rpath-prefixes") 97 (λ path prefixes. Ok (shrink_elf path prefixes)))
    ∷ edit_line (codes "rename-symbols") (by_new_names RenameAllSymbols)
    ∷ edit_line (codes "delete-symbols") (by_names DeleteAllSymbols)
    ∷ edit_line (codes "rename-sections") (by_new_names RenameSections)
    ∷ edit_line (codes "delete-sections") (by_names DeleteSections)
    ∷ print_line (codes "print-rpath") print_rpath
    ∷ print_line (codes "print-needed") print_needed
    ∷ print_line (codes "print-soname") print_soname
    ∷ print_line (codes "print-interpreter") print_interpreter
    ∷ print_line (codes "print-os-abi") print_os_abi
    ∷ print_line (codes "print-exec-stack") print_exec_stack
    ∷ []

-- a name is that of an edit of symbols or sections
abbrev pub names_symbols : Text → Bool
names_symbols name = bytes_eq name (codes "rename-symbols") || bytes_eq name (codes "delete-symbols")
    || bytes_eq name (codes "rename-sections") || bytes_eq name (codes "delete-sections")

-- ---- what a value of the program stands for

abbrev pub elf_command_model : ElfCommand → ElfMeaning
elf_command_model (elf.AddDebugTag args) = edit_elf AddDebugTag (string_bytes args.path_to_binary)
elf_command_model (elf.ClearExecStack args) = edit_elf ClearExecStack (string_bytes args.path_to_binary)
elf_command_model (elf.ForceRpath args) = edit_elf ForceRpath (string_bytes args.path_to_binary)
elf_command_model (elf.NoDefaultLib args) = edit_elf NoDefaultLib (string_bytes args.path_to_binary)
elf_command_model (elf.RemoveRpath args) = edit_elf RemoveRpath (string_bytes args.path_to_binary)
elf_command_model (elf.SetExecStack args) = edit_elf SetExecStack (string_bytes args.path_to_binary)
elf_command_model (elf.AddRpath args) =
    edit_elf (AddRpath (string_bytes args.new_rpath ∷ [])) (string_bytes args.path_to_binary)
elf_command_model (elf.SetRpath args) =
    edit_elf (SetRpath (string_bytes args.new_rpath)) (string_bytes args.path_to_binary)
elf_command_model (elf.SetInterpreter args) =
    edit_elf (SetInterpreter (string_bytes args.interpreter)) (string_bytes args.path_to_binary)
elf_command_model (elf.SetOsAbi args) =
    edit_elf (SetOsAbi (string_bytes args.os_abi)) (string_bytes args.path_to_binary)
elf_command_model (elf.SetSoname args) =
    edit_elf (SetSoname (string_bytes args.soname)) (string_bytes args.path_to_binary)
elf_command_model (elf.SetPageSize args) =
    edit_elf (SetPageSize args.page_size) (string_bytes args.path_to_binary)
elf_command_model (elf.ClearSymbolVersion args) =
    edit_elf (ClearSymbolVersion (string_bytes args.symbol)) (string_bytes args.path_to_binary)
elf_command_model (elf.AddNeeded args) =
    edit_elf (AddNeeded (map string_bytes args.dt_needed.items)) (string_bytes args.path_to_binary)
elf_command_model (elf.RemoveNeeded args) =
    edit_elf (RemoveNeeded (map string_bytes args.dt_needed.items)) (string_bytes args.path_to_binary)
elf_command_model (elf.ReplaceNeeded args) =
    edit_elf (ReplaceNeeded (map text_pair_model args.dt_needed.items)) (string_bytes args.path_to_binary)
elf_command_model (elf.ReplaceLibrary args) =
    edit_elf (ReplaceLibrary (map text_pair_model args.libraries.items)) (string_bytes args.path_to_binary)
elf_command_model (elf.RenameDynamicSymbols args) =
    edit_elf (RenameDynamicSymbols (map text_pair_model args.rename_symbols.items)) (string_bytes args.path_to_binary)
elf_command_model (elf.Apply args) =
    apply_elf (string_bytes args.path_to_binary) (map string_bytes args.edits.items)
elf_command_model (elf.ApplyMoving args) =
    apply_moving_elf (string_bytes args.path_to_binary) (map string_bytes args.edits.items)
elf_command_model (elf.ShrinkRpath args) =
    shrink_elf (string_bytes args.path_to_binary) (map string_bytes args.allowed_rpath_prefixes.items)
elf_command_model (elf.RenameSymbols args) =
    symbols_elf (RenameAllSymbols (map text_pair_model args.rename_symbols.items)) (string_bytes args.path_to_binary)
elf_command_model (elf.DeleteSymbols args) =
    symbols_elf (DeleteAllSymbols (map string_bytes args.symbols.items)) (string_bytes args.path_to_binary)
elf_command_model (elf.RenameSections args) =
    symbols_elf (RenameSections (map text_pair_model args.rename_sections.items)) (string_bytes args.path_to_binary)
elf_command_model (elf.DeleteSections args) =
    symbols_elf (DeleteSections (map string_bytes args.sections.items)) (string_bytes args.path_to_binary)
elf_command_model (elf.PrintRpath args) = print_rpath (string_bytes args.path_to_binary)
elf_command_model (elf.PrintNeeded args) = print_needed (string_bytes args.path_to_binary)
elf_command_model (elf.PrintSoname args) = print_soname (string_bytes args.path_to_binary)
elf_command_model (elf.PrintInterpreter args) = print_interpreter (string_bytes args.path_to_binary)
elf_command_model (elf.PrintOsAbi args) = print_os_abi (string_bytes args.path_to_binary)
elf_command_model (elf.PrintExecStack args) = print_exec_stack (string_bytes args.path_to_binary)

-- a command, as what the table of commands gives for its values
abbrev pub reading_of : ElfCommand → Reading
reading_of command = Ok (elf_command_model command)

-- the ELF file that is edited or read
abbrev pub elf_file_of : ElfMeaning → Text
elf_file_of (edit_elf asked path) = path
elf_file_of (apply_elf path words) = path
elf_file_of (apply_moving_elf path words) = path
elf_file_of (shrink_elf path prefixes) = path
elf_file_of (symbols_elf edit path) = path
elf_file_of (print_rpath path) = path
elf_file_of (print_needed path) = path
elf_file_of (print_soname path) = path
elf_file_of (print_interpreter path) = path
elf_file_of (print_os_abi path) = path
elf_file_of (print_exec_stack path) = path
