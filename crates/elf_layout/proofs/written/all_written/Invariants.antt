use Rattle.std.proofs.Common.{◌≡◌, take}
use Rattle.std.specs.List.{flat_map}
use Rattle.elf_layout_plan.specs.Written.{written_from}
use Rattle.elf_layout.proofs.written.all_written.Given as goal

abbrev pub invariant-loop-i : goal.invariant-loop-i
invariant-loop-i l = l.made.items ≡ flat_map (written_from l.r l.moved) (take l.i l.r.image.segments)
