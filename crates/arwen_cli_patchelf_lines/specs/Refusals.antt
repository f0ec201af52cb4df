-- What lines of patchelf ask for that is refused before a file is edited.
use Rattle.std.specs.Prelude.{◌&&◌, Bool, List, [], ◌∷◌, Option, Some, None, codes, if◌then◌else◌, option_map}
use Rattle.std.specs.List.{list_any}
use Rattle.std.specs.Str.{bytes_eq}
use Rattle.arwen_cli_options.specs.Options.{Asked, Text}
use Rattle.arwen_cli_patchelf_lines.specs.declared.refusals.Refused.{Refused}
use Rattle.arwen_cli_patchelf_lines.specs.declared.refusals.Refused.TheVariants as told

-- why a line isn't done: an option isn't there; no file is named, or not one with an output; the run path is to be set and to be
-- added to
pub data Refusal : Type 0 where
  absent : Text → Refusal
  no_file : Refusal
  several_files : Refusal
  set_and_add : Refusal

abbrev pub refused_model : Refused → Refusal
refused_model (told.Absent name) = absent name.now
refused_model told.NoFile = no_file
refused_model told.SeveralFiles = several_files
refused_model told.SetAndAdd = set_and_add

-- an option that isn't there
abbrev pub is_absent : Text → Bool
is_absent name = bytes_eq name (codes "--no-clobber-old-sections")

abbrev pub absent_among : List Asked → Option Text
absent_among [] = None
absent_among (one ∷ rest) = if is_absent one.name then Some one.name else absent_among rest

-- an option of this name is given
abbrev pub is_asked : Text → List Asked → Bool
is_asked name given = list_any (λ one. bytes_eq one.name name) given

-- one output takes one file
abbrev pub files_refused : List Text → Bool → Option Refusal
files_refused [] has_output = Some no_file
files_refused (path ∷ []) has_output = None
files_refused (path ∷ next ∷ rest) has_output = if has_output then Some several_files else None

abbrev pub order_refused : List Asked → Option Refusal
order_refused given =
    if is_asked (codes "--set-rpath") given && is_asked (codes "--add-rpath") given then Some set_and_add else None

-- the first refusal counts
abbrev pub or_else : Option Refusal → Option Refusal → Option Refusal
or_else None second = second
or_else (Some refusal) second = Some refusal

-- of a line that gives this and names these files
abbrev pub line_refused : List Asked → List Text → Option Refusal
line_refused given paths = or_else (option_map absent (absent_among given))
    (or_else (files_refused paths (is_asked (codes "--output") given)) (order_refused given))
