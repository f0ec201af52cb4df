use Rattle.std.proofs.Common.{◌≡◌, map, take}
use Rattle.serde_json.specs.View.{view}
use Rattle.arwen_cli_facts.specs.ElfFacts.{library_model}
use Rattle.arwen_cli_show.specs.Json.{library_data}
use Rattle.arwen_cli_show.proofs.elf_json.libraries_value.Given as goal

-- the values so far
abbrev pub invariant-loop-library : goal.invariant-loop-library
invariant-loop-library l = map view l.made.items ≡ map library_data (map library_model (take l.library-index l.needed))
