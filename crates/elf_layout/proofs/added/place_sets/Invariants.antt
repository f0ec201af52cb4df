use Rattle.std.proofs.Common.{drop}
use Rattle.elf_layout.proofs.LoadSteps.{ArePlacedLoads}
use Rattle.elf_layout.proofs.added.place_sets.Given as goal

abbrev pub invariant-loop-flags : goal.invariant-loop-flags
invariant-loop-flags l = ArePlacedLoads l.r l.moved l.initial.slots l.at l.loads.items l.slots (drop l.flags-index l.sets)
