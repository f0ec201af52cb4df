use Rattle.std.proofs.Common.{◌≡◌, map, take}
use Rattle.serde_json.specs.View.{view}
use Rattle.arwen_cli_show.specs.Json.{slice_data}
use Rattle.arwen_cli_facts.specs.MachoFacts.{slice_told}
use Rattle.arwen_cli_show.proofs.macho_json.slices_value.Given as goal

-- the values so far
abbrev pub invariant-loop-slice : goal.invariant-loop-slice
invariant-loop-slice l = map view l.made.items ≡ map slice_data (map slice_told (take l.slice-index l.slices))
