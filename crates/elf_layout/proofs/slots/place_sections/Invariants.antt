use Rattle.std.proofs.Common.{drop}
use Rattle.elf_layout.proofs.SlotSteps.{ArePlaced}
use Rattle.elf_layout.proofs.slots.place_sections.Given as goal

abbrev pub invariant-loop-position : goal.invariant-loop-position
invariant-loop-position l = ArePlaced l.r l.flags l.fn.start l.moved l.initial.slots l.at l.slots (drop l.position-index l.moved)
