use Rattle.std.proofs.Common.{◌≡◌, ◌<◌, ◌^◌, drop}
use Rattle.elf_layout_plan.specs.Memory.{sized_sections}
use Rattle.elf_layout.specs.Slots.{has_memory, section_end}
use Rattle.elf_layout.proofs.GreatestSteps.{greatest_of}
use Rattle.elf_layout.proofs.memory.memory_end.Given as goal

abbrev pub invariant-loop-position : goal.invariant-loop-position
invariant-loop-position l = record {
  end : greatest_of (has_memory l.loads) section_end l.end (drop l.position (sized_sections l.r))
      ≡ greatest_of (has_memory l.loads) section_end l.loads (sized_sections l.r);
  near : l.end < 2 ^ 65;
}
