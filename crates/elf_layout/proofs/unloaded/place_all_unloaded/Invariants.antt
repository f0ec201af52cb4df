use Rattle.elf_layout_plan.specs.Memory.{sized_sections}
use Rattle.elf_layout.proofs.TableSteps.{ArePlacedUnloaded}
use Rattle.elf_layout.proofs.unloaded.place_all_unloaded.Given as goal

abbrev pub invariant-loop-position : goal.invariant-loop-position
invariant-loop-position l = ArePlacedUnloaded l.start (sized_sections l.r) l.offsets.items l.end l.position
