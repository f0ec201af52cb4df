-- What each of the five edits makes of a list of load commands. It knows no buffer.
use Rattle.std.specs.Prelude.{ℕ, ◌==◌, ◌&&◌, Bool, nat_le, List, [], ◌∷◌, ◌++◌, position, remove, get_or, length, slice_set, Option, Some, None, Result, Ok, Err}
use Rattle.std.specs.Str.{bytes_eq}
use Rattle.patch_bytes.specs.declared.number.ByteOrder2.{ByteOrder2}
use Rattle.macho_image.specs.declared.command.TheConstants.{DYLIB_COMMAND_SIZE, LC_ID_DYLIB, LC_RPATH, RPATH_COMMAND_SIZE}
use Rattle.macho_image.specs.declared.format.Ctx.{Ctx}
use Rattle.macho_image.specs.Command.{cmd_of, dylib_of, is_load_kind, text_of}
use Rattle.macho_edits.specs.Built.{dylib_built, rpath_built}
use Rattle.macho_edits.specs.Call.{Call, Cause}
use Rattle.macho_edits.specs.Call.Call.{add_rpath, change_install_id, change_install_name, change_rpath, remove_rpath}
use Rattle.macho_edits.specs.Call.Cause.{id_missing, name_missing, rpath_missing}

-- an rpath command with this text; a command that holds the library's own name; a command of the five
-- kinds that load a library, with this text. Each has its fixed part. Texts are compared byte by byte.
unfoldable pub is_rpath_named : ByteOrder2 → List ℕ → List ℕ → Bool
is_rpath_named order text c = nat_le RPATH_COMMAND_SIZE (length c) && (cmd_of order c == LC_RPATH && bytes_eq (text_of order c) text)

unfoldable pub is_id : ByteOrder2 → List ℕ → Bool
is_id order c = nat_le DYLIB_COMMAND_SIZE (length c) && cmd_of order c == LC_ID_DYLIB

unfoldable pub is_library_named : ByteOrder2 → List ℕ → List ℕ → Bool
is_library_named order text c = nat_le DYLIB_COMMAND_SIZE (length c) && (is_load_kind (cmd_of order c) && bytes_eq (text_of order c) text)

-- the list with a built command behind it
abbrev pub list_with_last : Result (List ℕ) Cause → List (List ℕ) → Result (List (List ℕ)) Cause
list_with_last (Ok c) list = Ok (list ++ c ∷ [])
list_with_last (Err cause) list = Err cause

-- the list with a built command in the place of another
abbrev pub list_with_at : ℕ → Result (List ℕ) Cause → List (List ℕ) → Result (List (List ℕ)) Cause
list_with_at i (Ok c) list = Ok (slice_set list i c)
list_with_at i (Err cause) list = Err cause

-- the list with the command at the place found rebuilt, or the cause where none was found
abbrev pub list_rebuilt_at : Option ℕ → Cause → (List ℕ → Result (List ℕ) Cause) → List (List ℕ) → Result (List (List ℕ)) Cause
list_rebuilt_at None cause build list = Err cause
list_rebuilt_at (Some i) cause build list = list_with_at i (build (get_or list i [])) list

-- the list without the command at the place found, or the cause where none was found
abbrev pub list_without_at : Option ℕ → Cause → List (List ℕ) → Result (List (List ℕ)) Cause
list_without_at None cause list = Err cause
list_without_at (Some i) cause list = Ok (remove list i)

-- the edited list, or why there is none: first the missing name, then the build
unfoldable pub edited_list : Ctx → Call → List (List ℕ) → Result (List (List ℕ)) Cause
edited_list ctx (add_rpath new) list = list_with_last (rpath_built ctx new) list
edited_list ctx (change_rpath old new) list =
    list_rebuilt_at (position (is_rpath_named ctx.le old) list) (rpath_missing old) (λ c. rpath_built ctx new) list
edited_list ctx (remove_rpath old) list = list_without_at (position (is_rpath_named ctx.le old) list) (rpath_missing old) list
edited_list ctx (change_install_id new) list =
    list_rebuilt_at (position (is_id ctx.le) list) id_missing (λ c. dylib_built ctx new (dylib_of ctx.le c)) list
edited_list ctx (change_install_name old new) list =
    list_rebuilt_at (position (is_library_named ctx.le old) list) (name_missing old) (λ c. dylib_built ctx new (dylib_of ctx.le c)) list
