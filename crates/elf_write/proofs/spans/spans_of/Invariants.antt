use Rattle.std.proofs.Common.{◌≡◌, map, take}
use Rattle.elf_write.specs.PieceSteps.{span_in}
use Rattle.elf_write.proofs.spans.spans_of.Given as goal

-- the spans of the ranges so far
abbrev pub invariant-loop-range : goal.invariant-loop-range
invariant-loop-range l = l.spans.items ≡ map (span_in l.len) (take l.range-index l.ranges)
