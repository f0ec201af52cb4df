use Rattle.std.proofs.Common.{◌≡◌, drop, map}
use Rattle.elf_format.specs.File.{is_loaded}
use Rattle.elf_image.specs.ImageModel.{segment_model}
use Rattle.elf_layout.proofs.GreatestSteps.{greatest_of}
use Rattle.elf_layout.proofs.memory.greatest_align.Given as goal

abbrev pub invariant-loop-segment : goal.invariant-loop-segment
invariant-loop-segment l =
    greatest_of is_loaded (λ p. p.p_align) l.found (drop l.segment-index (map segment_model l.segments))
    ≡ greatest_of is_loaded (λ p. p.p_align) 0 (map segment_model l.segments)
