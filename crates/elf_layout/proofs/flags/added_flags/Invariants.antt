use Rattle.std.proofs.Common.{◌≡◌, take}
use Rattle.elf_layout_plan.specs.Rounds.{each_once}
use Rattle.elf_layout.proofs.FlagSteps.{flags_of_all}
use Rattle.elf_layout.proofs.flags.added_flags.Given as goal

abbrev pub invariant-loop-position : goal.invariant-loop-position
invariant-loop-position l = l.sets.items ≡ each_once (flags_of_all l.r (take l.position-index l.moved))
