use Rattle.std.proofs.Common.{◌-◌, ◌+◌, ◌<◌, length}
use Rattle.elf_layout_segments.specs.Leasts.{AreLeastBelow, AreLeastOf}
use Rattle.elf_layout_segments.proofs.leasts.leasts_in.Given as goal

abbrev pub invariant-loop-width : goal.invariant-loop-width
invariant-loop-width l = record {
  some : 0 < l.width;
  leasts : AreLeastOf l.fn.numbers.items l.width l.row.items;
  answered : AreLeastBelow l.fn.numbers.items l.asked l.width l.answers.items;
}

abbrev pub decreases-loop-width : goal.decreases-loop-width
decreases-loop-width l = length l.row.items + 1 - l.width
