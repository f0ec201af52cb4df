-- What a command for Mach-O files asks for, with its texts as bytes.
use Rattle.std.specs.Prelude.{◌∷◌, [], List, codes, false, map, string_bytes, true}
use Rattle.macho_edits.specs.Batch.{calls_of}
use Rattle.macho_edits.specs.Call.{Call}
use Rattle.macho_edits.specs.Call.Call.{add_rpath, change_install_id, change_install_name}
use Rattle.macho_edits.specs.Call.Call.{change_rpath, remove_rpath}
use Rattle.command_words.specs.Rows.{Asks, Line, Text, by_path, by_text, by_texts, by_words}
use Rattle.macho_commands.specs.declared.command.MachoCommand.{MachoCommand}
use Rattle.macho_commands.specs.declared.command.MachoCommand.TheVariants as macho

-- what is asked of the Mach-O file at a path: an edit, the edits that words name, those of a list, that its ad-hoc signatures are
-- made to fit, or whether they do
pub data MachoMeaning : Type 0 where
  edit : Call → Text → MachoMeaning
  apply : Text → List Text → MachoMeaning
  batch : Text → List Call → MachoMeaning
  sign : Text → MachoMeaning
  verify : Text → MachoMeaning

-- ---- the commands by their names

-- an edit by one text, and by two
abbrev pub by_one : (Text → Call) → Asks MachoMeaning
by_one call = by_text (λ value path. edit (call value) path)

abbrev pub by_two : (Text → Text → Call) → Asks MachoMeaning
by_two call = by_texts (λ first second path. edit (call first second) path)

abbrev pub edit_line : Text → Asks MachoMeaning → Line MachoMeaning
edit_line name asks = record { name = name; is_edit = true; asks = asks }

abbrev pub macho_lines : List (Line MachoMeaning)
macho_lines = edit_line (codes "delete-rpath") (by_one remove_rpath)
    ∷ edit_line (codes "change-rpath") (by_two change_rpath)
    ∷ edit_line (codes "add-rpath") (by_one add_rpath)
    ∷ edit_line (codes "change-install-name") (by_two change_install_name)
    ∷ edit_line (codes "change-install-id") (by_one change_install_id)
    ∷ record { name = codes "apply"; is_edit = false; asks = by_words apply }
    ∷ record { name = codes "sign"; is_edit = false; asks = by_path sign }
    ∷ record { name = codes "verify"; is_edit = false; asks = by_path verify }
    ∷ []

-- ---- what a value of the program stands for

abbrev pub macho_command_model : MachoCommand → MachoMeaning
macho_command_model (macho.DeleteRpath args) =
    edit (remove_rpath (string_bytes args.rpath_to_remove)) (string_bytes args.path_to_binary)
macho_command_model (macho.ChangeRpath args) =
    edit (change_rpath (string_bytes args.old_rpath) (string_bytes args.new_rpath))
    (string_bytes args.path_to_binary)
macho_command_model (macho.AddRpath args) =
    edit (add_rpath (string_bytes args.new_rpath)) (string_bytes args.path_to_binary)
macho_command_model (macho.ChangeInstallName args) =
    edit (change_install_name (string_bytes args.old_install_name)
    (string_bytes args.new_install_name)) (string_bytes args.path_to_binary)
macho_command_model (macho.ChangeInstallId args) =
    edit (change_install_id (string_bytes args.new_install_id)) (string_bytes args.path_to_binary)
macho_command_model (macho.Apply args) =
    apply (string_bytes args.path_to_binary) (map string_bytes args.edits.items)
macho_command_model (macho.Batch args) = batch (string_bytes args.path_to_binary) (calls_of args.edits.items)
macho_command_model (macho.Sign args) = sign (string_bytes args.path_to_binary)
macho_command_model (macho.Verify args) = verify (string_bytes args.path_to_binary)

-- the Mach-O file that is edited or looked at
abbrev pub file_of : MachoMeaning → Text
file_of (edit call path) = path
file_of (apply path words) = path
file_of (batch path calls) = path
file_of (sign path) = path
file_of (verify path) = path
