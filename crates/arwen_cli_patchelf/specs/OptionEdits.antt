-- What patchelf's options ask for: edits, each with the option that asks for it.
use Rattle.std.specs.Prelude.{◌++◌, List, [], ◌∷◌, map, Option, Some, None, codes, if◌then◌else◌}
use Rattle.elf_commands.specs.Groups.{GroupEdit, plain}
use Rattle.elf_edits.specs.Edit.{AddDebugTag, AddNeeded, AddRpath, AllowDynamicMove, ClearExecStack, ClearSymbolVersion, RemoveNeeded, RemoveRpath, Edit}
use Rattle.elf_edits.specs.Edit.{NoDefaultLib, RenameDynamicSymbols, ReplaceLibrary, SetExecStack, SetInterpreter, SetOsAbi, SetRpath, SetSoname, ForceRpath}
use Rattle.elf_edits.specs.EditModel.{edit_model}
use Rattle.arwen_cli_options.specs.Asked.{is_given, last_of, pairs_of}
use Rattle.arwen_cli_options.specs.Options.{Asked, Text, values_of}
use Rattle.arwen_cli_patchelf.specs.declared.option_edits.OptionEdit.{OptionEdit}

-- an edit, and the name of the option that asks for it
pub record Planned : Type 0 where
  pub option : Text
  pub edit : Edit

abbrev pub planned_model : OptionEdit → Planned
planned_model one = record { option = one.option.now; edit = edit_model one.edit }

-- ## By an option's values

abbrev pub by : Text → Edit → Planned
by option edit = record { option = option; edit = edit }

-- an edit without a value, where the option is given
abbrev pub once : Text → Edit → List Asked → List Planned
once option edit asked = if is_given option asked then by option edit ∷ [] else []

-- one with the last of its values
abbrev pub with_one : Text → (Text → Edit) → Option Text → List Planned
with_one option edit None = []
with_one option edit (Some value) = by option (edit value) ∷ []

abbrev pub with_last : Text → (Text → Edit) → List Asked → List Planned
with_last option edit asked = with_one option edit (last_of option asked)

-- one with all of its values, or pairs of values
abbrev pub with_some : {X : Type 0} → Text → (List X → Edit) → List X → List Planned
with_some option edit [] = []
with_some option edit (value ∷ values) = by option (edit (value ∷ values)) ∷ []

abbrev pub with_all : Text → (List Text → Edit) → List Asked → List Planned
with_all option edit asked = with_some option edit (values_of option asked)

abbrev pub with_pairs : Text → (List (Text × Text) → Edit) → List Asked → List Planned
with_pairs option edit asked = with_some option edit (pairs_of option asked)

-- one with each of its values
abbrev pub with_each : Text → (Text → Edit) → List Asked → List Planned
with_each option edit asked = map (λ value. by option (edit value)) (values_of option asked)

-- ## What options mean

-- the ABI, the library's own name, and the interpreter
abbrev pub header_edits : List Asked → List Planned
header_edits asked =
    with_last (codes "--set-os-abi") SetOsAbi asked
    ++ with_last (codes "--set-soname") SetSoname asked
    ++ with_last (codes "--set-interpreter") SetInterpreter asked

-- whether the stack may be run: it is printed, or forbidden, or allowed
abbrev pub stack_edits : List Asked → List Planned
stack_edits asked =
    if is_given (codes "--print-execstack") asked then []
    else (if is_given (codes "--clear-execstack") asked then by (codes "--clear-execstack") ClearExecStack ∷ []
    else once (codes "--set-execstack") SetExecStack asked)

-- a run path that is set is a DT_RUNPATH, with `--force-rpath` a DT_RPATH
abbrev pub forced : List Asked → List Planned
forced asked = once (codes "--force-rpath") ForceRpath asked

abbrev pub set_edits : List Asked → Text → List Planned
set_edits asked text =
    by (codes "--set-rpath") RemoveRpath ∷ by (codes "--set-rpath") (SetRpath text) ∷ forced asked

abbrev pub added_edits : List Asked → Option Text → List Planned
added_edits asked None = []
added_edits asked (Some text) = by (codes "--add-rpath") (AddRpath (text ∷ [])) ∷ forced asked

abbrev pub set_or_added : List Asked → Option Text → List Planned
set_or_added asked None = added_edits asked (last_of (codes "--add-rpath") asked)
set_or_added asked (Some text) = set_edits asked text

-- the run path: it is removed, or set, or added to
abbrev pub run_path_edits : List Asked → List Planned
run_path_edits asked =
    if is_given (codes "--remove-rpath") asked then by (codes "--remove-rpath") RemoveRpath ∷ []
    else set_or_added asked (last_of (codes "--set-rpath") asked)

-- the needed libraries: names that go, pairs, and names that come
abbrev pub needed_edits : List Asked → List Planned
needed_edits asked =
    with_all (codes "--remove-needed") RemoveNeeded asked
    ++ with_pairs (codes "--replace-needed") ReplaceLibrary asked
    ++ with_all (codes "--add-needed") AddNeeded asked

-- symbols: versions that are cleared, and pairs of names; and entries of the dynamic list
abbrev pub other_edits : List Asked → List Planned
other_edits asked =
    with_each (codes "--clear-symbol-version") ClearSymbolVersion asked
    ++ with_pairs (codes "--rename-dynamic-symbols") RenameDynamicSymbols asked
    ++ once (codes "--no-default-lib") NoDefaultLib asked
    ++ once (codes "--add-debug-tag") AddDebugTag asked

-- a line's edits, in patchelf's order, whatever the order of the line's options
abbrev pub planned_edits : List Asked → List Planned
planned_edits asked =
    header_edits asked ++ stack_edits asked ++ run_path_edits asked ++ needed_edits asked ++ other_edits asked

-- as they are made: where there are some, leave that the dynamic section moves stands behind them
abbrev pub with_leave : List Planned → List GroupEdit
with_leave [] = []
with_leave (first ∷ rest) = map (λ one. plain one.edit) (first ∷ rest) ++ plain AllowDynamicMove ∷ []
