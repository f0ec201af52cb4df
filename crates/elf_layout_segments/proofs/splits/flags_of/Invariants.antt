use Rattle.std.proofs.Common.{◌≡◌, take}
use Rattle.elf_layout_plan.specs.Rounds.{added_flags}
use Rattle.elf_layout_segments.proofs.splits.flags_of.Given as goal

abbrev pub invariant-loop-position : goal.invariant-loop-position
invariant-loop-position l = l.flags.items ≡ added_flags l.r (take l.position-index l.moved)
