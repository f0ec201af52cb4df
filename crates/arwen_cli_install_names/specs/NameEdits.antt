-- The edits that install_name_tool's options ask for, option by option.
use Rattle.std.specs.Prelude.{◌++◌, Bool, List, [], ◌∷◌, map, filter, flat_map, not, codes, if◌then◌else◌, string_bytes}
use Rattle.std.specs.List.{list_any}
use Rattle.std.specs.Str.{bytes_eq}
use Rattle.macho_edits.specs.Call.{Call}
use Rattle.macho_edits.specs.Call.Call.{add_rpath, change_install_id, change_install_name}
use Rattle.macho_edits.specs.Call.Call.{change_rpath, remove_rpath}
use Rattle.arwen_cli_options.specs.Options.{Asked, Text}
use Rattle.arwen_cli_install_names.specs.declared.name_edits.Names.{Names}

-- what a file has before its edits: a name of its own, the names of the libraries that it loads, and its run paths
pub record FileNames : Type 0 where
  pub has_id : Bool
  pub libraries : List Text
  pub run_paths : List Text

abbrev pub names_model : Names → FileNames
names_model names = record {
  has_id = names.has_id;
  libraries = map string_bytes names.libraries.items;
  run_paths = map string_bytes names.run_paths.items;
}

abbrev pub is_among : Text → List Text → Bool
is_among text texts = list_any (λ t. bytes_eq t text) texts

-- all run paths go
abbrev pub removed : List Text → List Call
removed paths = map remove_rpath paths

-- run paths come
abbrev pub added : List Text → List Call
added paths = map add_rpath paths

-- ## What an option means, of a file that has these names

-- a library that isn't loaded isn't renamed, and a file without a name of its own gets none: both are passed over
unfoldable pub option_calls : FileNames → Asked → List Call
option_calls names asked =
    if bytes_eq asked.name (codes "-add_rpath") then add_rpath asked.first ∷ []
    else (if bytes_eq asked.name (codes "-delete_rpath") then remove_rpath asked.first ∷ []
    else (if bytes_eq asked.name (codes "-rpath") then change_rpath asked.first asked.second ∷ []
    else (if bytes_eq asked.name (codes "-change")
    then (if is_among asked.first names.libraries then change_install_name asked.first asked.second ∷ [] else [])
    else (if bytes_eq asked.name (codes "-id")
    then (if names.has_id then change_install_id asked.first ∷ [] else [])
    else (if bytes_eq asked.name (codes "-delete_all_rpaths") then removed names.run_paths
    else (if bytes_eq asked.name (codes "-prepend_rpath")
    then removed names.run_paths ++ add_rpath asked.first ∷ added names.run_paths
    else []))))))

-- the edits of options, in order
abbrev pub options_calls : FileNames → List Asked → List Call
options_calls names asked = flat_map (option_calls names) asked

-- ## What a line means

-- the option puts a run path before all others
abbrev pub is_prepending : Asked → Bool
is_prepending asked = bytes_eq asked.name (codes "-prepend_rpath")

-- the options of a line that do so, in its order
abbrev pub prepending_options : List Asked → List Asked
prepending_options asked = filter is_prepending asked

-- its other options, in its order
abbrev pub other_options : List Asked → List Asked
other_options asked = filter (λ one. not (is_prepending one)) asked

-- the edits of a line: run paths are put in front before any other option changes or deletes one
abbrev pub name_calls : FileNames → List Asked → List Call
name_calls names asked = options_calls names (prepending_options asked ++ other_options asked)
