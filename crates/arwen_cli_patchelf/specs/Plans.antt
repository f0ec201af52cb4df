-- What a line asks of the bytes of each of its files.
use Rattle.std.specs.Prelude.{ℕ, ◌==◌, List, [], map, Option, Some, None, codes, if◌then◌else◌, option_map, slice_get, string_bytes, unwrap_or}
use Rattle.std.specs.List.{slice_split}
use Rattle.elf_commands.specs.Groups.{GroupEdit, group_model}
use Rattle.arwen_cli_options.specs.Asked.{is_given, last_of}
use Rattle.arwen_cli_options.specs.Options.{Asked, Text}
use Rattle.command_words.specs.Parts.{without_empty}
use Rattle.arwen_cli_patchelf.specs.OptionEdits.{planned_edits, with_leave}
use Rattle.arwen_cli_patchelf.specs.declared.plans.Plan.{Plan}

-- first that run paths shrink, with the prefixes that are allowed, and then edits, with the names of the options that ask for them
pub record PlanMeant : Type 0 where
  pub shrinks : Option (List Text)
  pub edits : List GroupEdit
  pub options : List Text

abbrev pub plan_model : Plan → PlanMeant
plan_model plan = record {
  shrinks = option_map (λ prefixes. map string_bytes prefixes.items) plan.shrinks;
  edits = map group_model plan.edits.items;
  options = map string_bytes plan.options.items;
}

-- the option that asks for the edit with this number, counted from 0; no text where none does
abbrev pub option_of : PlanMeant → ℕ → Text
option_of plan index = unwrap_or (slice_get plan.options index) []

-- the prefixes between the colons of a text
abbrev pub prefixes_in : Text → List Text
prefixes_in list = without_empty (slice_split (λ byte. byte == 58) list)

abbrev pub prefixes_by : Option Text → List Text
prefixes_by None = []
prefixes_by (Some list) = prefixes_in list

abbrev pub prefixes_asked : List Asked → List Text
prefixes_asked asked = prefixes_by (last_of (codes "--allowed-rpath-prefixes") asked)

abbrev pub shrinks_of_options : List Asked → Option (List Text)
shrinks_of_options asked = if is_given (codes "--shrink-rpath") asked then Some (prefixes_asked asked) else None

-- what options ask of the bytes of a file
abbrev pub plan_of_options : List Asked → PlanMeant
plan_of_options asked = record {
  shrinks = shrinks_of_options asked;
  edits = with_leave (planned_edits asked);
  options = map (λ one. one.option) (planned_edits asked);
}
