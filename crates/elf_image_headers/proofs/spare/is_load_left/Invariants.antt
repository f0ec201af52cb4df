use Rattle.std.proofs.Common.{◌≡◌, drop, map}
use Rattle.std.specs.List.{list_any}
use Rattle.elf_image_headers.specs.PartModels.{segment_model}
use Rattle.elf_image_headers.specs.SpareFrom.{stays_loaded}
use Rattle.elf_image_headers.proofs.spare.is_load_left.Given as goal

abbrev pub invariant-loop-segment : goal.invariant-loop-segment
invariant-loop-segment l = list_any (stays_loaded l.from) (map segment_model (drop l.segment-index l.segments)) ≡ list_any (stays_loaded l.from) (map segment_model l.segments)
