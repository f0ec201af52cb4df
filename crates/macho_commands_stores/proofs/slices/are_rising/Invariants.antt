-- Where the slices from one on rise from where the ones before it end, all rise.
use Rattle.std.proofs.Common.{drop}
use Rattle.macho_commands_stores.specs.Slices.{AreRising}
use Rattle.macho_commands_stores.proofs.slices.are_rising.Given as goal

abbrev pub invariant-loop-arch : goal.invariant-loop-arch
invariant-loop-arch l = AreRising l.end l.size (drop l.arch-index l.archs) → AreRising l.start l.size l.archs
