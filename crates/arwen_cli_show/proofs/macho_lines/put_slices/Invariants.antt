use Rattle.std.proofs.Common.{◌≡◌, ◌++◌, map, string_bytes, take}
use Rattle.std.specs.List.{flat_map}
use Rattle.arwen_cli_show.specs.Lines.{slice_lines}
use Rattle.arwen_cli_facts.specs.MachoFacts.{slice_told}
use Rattle.arwen_cli_show.proofs.macho_lines.put_slices.Given as goal

-- the lines of the slices so far
abbrev pub invariant-loop-slice : goal.invariant-loop-slice
invariant-loop-slice l = string_bytes l.out ≡ string_bytes l.initial.out ++ flat_map slice_lines (map slice_told (take l.slice-index l.slices))
