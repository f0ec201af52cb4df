use Rattle.std.proofs.Common.{◌≡◌, ◌<◌, ◌^◌, drop, map}
use Rattle.elf_image_headers.specs.Spare.{is_fixed_segment}
use Rattle.elf_image_headers.specs.PartModels.{segment_model}
use Rattle.elf_image_headers.proofs.SpareSteps.{greatest_of, memory_end}
use Rattle.elf_image_headers.proofs.spare.fixed_segments_end.Given as goal

abbrev pub invariant-loop-segment : goal.invariant-loop-segment
invariant-loop-segment l = record {
  end : greatest_of is_fixed_segment memory_end l.end (map segment_model (drop l.segment-index l.segments)) ≡ greatest_of is_fixed_segment memory_end 0 (map segment_model l.segments);
  near : l.end < 2 ^ 65;
}
