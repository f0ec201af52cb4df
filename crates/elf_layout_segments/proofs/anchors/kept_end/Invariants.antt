use Rattle.std.proofs.Common.{◌≡◌, take}
use Rattle.elf_layout_segments.specs.SplitCounts.{kept_end_over}
use Rattle.elf_layout_segments.proofs.anchors.kept_end.Given as goal

abbrev pub invariant-loop-i : goal.invariant-loop-i
invariant-loop-i l = l.end ≡ kept_end_over l.r l.moved (take l.i l.r.image.segments)
