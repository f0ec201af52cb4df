use Rattle.elf_layout_sizes.proofs.SizeSteps.{AreSizedTo}
use Rattle.elf_layout_sizes.proofs.kinds.Sizing.sizes.Given as goal

-- the sizes so far are those of the sections so far, all of which fit
abbrev pub invariant-loop-i : goal.invariant-loop-i
invariant-loop-i l = AreSizedTo l.self.read l.self.image l.sizes.items l.i
