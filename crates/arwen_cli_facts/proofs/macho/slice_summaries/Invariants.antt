use Rattle.std.proofs.Common.{◌≡◌, map, take}
use Rattle.arwen_macho.specs.FatSlice.{slice_model}
use Rattle.arwen_cli_facts.specs.MachoFacts.{slice_told, told_slice}
use Rattle.arwen_cli_facts.proofs.macho.slice_summaries.Given as goal

-- the slices so far
abbrev pub invariant-loop-slice : goal.invariant-loop-slice
invariant-loop-slice l = map slice_told l.made.items ≡ map told_slice (map slice_model (take l.slice-index l.slices))
