use Rattle.std.proofs.Common.{◌≡◌, map, take}
use Rattle.elf_image.specs.ImageModel.{segment_model}
use Rattle.test_slow_layout.specs.Plain.{piece_with}
use Rattle.test_slow_layout.proofs.plain.pieces_of.Given as goal

-- the pieces of the first program headers
abbrev pub invariant-loop-segment : goal.invariant-loop-segment
invariant-loop-segment l = l.pieces.items ≡ map piece_with (map segment_model (take l.segment-index l.segments))
