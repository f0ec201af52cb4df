use Rattle.std.proofs.Common.{◌≡◌, ◌+◌, ◌*◌, ◌≤◌, ◌^◌, drop, map}
use Rattle.std.specs.Prelude.{sum_by}
use Rattle.elf_image_headers.specs.PartModels.{segment_model}
use Rattle.elf_image_headers.specs.SpareFrom.{filled_if_spare}
use Rattle.elf_image_headers.proofs.spare.filled_in_spare.Given as goal

abbrev pub invariant-loop-segment : goal.invariant-loop-segment
invariant-loop-segment l = record {
  sum : l.sum + sum_by (filled_if_spare l.from l.source) (map segment_model (drop l.segment-index l.segments)) ≡ sum_by (filled_if_spare l.from l.source) (map segment_model l.segments);
  near : l.sum ≤ l.segment-index * 2 ^ 64;
}
