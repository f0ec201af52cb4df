use Rattle.std.proofs.Common.{◌≡◌, drop, is_some, map}
use Rattle.elf_format.specs.declared.constants.TheConstants.{PT_GNU_STACK}
use Rattle.elf_image.specs.File.{segment_of_type}
use Rattle.elf_image.specs.ImageModel.{segment_model}
use Rattle.elf_edits.proofs.of_image.has_stack.Given as goal

-- no segment so far is one
abbrev pub invariant-loop-segment : goal.invariant-loop-segment
invariant-loop-segment l = is_some (segment_of_type PT_GNU_STACK (map segment_model l.segments)) ≡ is_some (segment_of_type PT_GNU_STACK (map segment_model (drop l.segment-index l.segments)))
