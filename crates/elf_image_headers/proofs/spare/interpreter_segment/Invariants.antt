use Rattle.std.proofs.Common.{◌≡◌, drop, map}
use Rattle.elf_format.specs.declared.constants.TheConstants.{PT_INTERP}
use Rattle.elf_format.specs.File.{segment_of_type}
use Rattle.elf_image_headers.specs.PartModels.{segment_model}
use Rattle.elf_image_headers.proofs.spare.interpreter_segment.Given as goal

abbrev pub invariant-loop-segment : goal.invariant-loop-segment
invariant-loop-segment l = segment_of_type PT_INTERP (map segment_model (drop l.segment-index l.segments)) ≡ segment_of_type PT_INTERP (map segment_model l.segments)
