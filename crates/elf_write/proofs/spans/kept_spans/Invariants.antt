use Rattle.std.proofs.Common.{◌≡◌, map, take}
use Rattle.elf_image.specs.ImageModel.{segment_model}
use Rattle.elf_write.specs.PieceSteps.{load_spans}
use Rattle.elf_write.proofs.spans.kept_spans.Given as goal

-- the spans of the loaded segments so far
abbrev pub invariant-loop-segment : goal.invariant-loop-segment
invariant-loop-segment l = l.spans.items ≡ load_spans l.len (map segment_model (take l.segment-index l.segments))
