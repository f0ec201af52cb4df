use Rattle.std.proofs.Common.{◌≡◌, drop, map}
use Rattle.std.specs.List.{list_any}
use Rattle.elf_format.specs.Ranges.{range}
use Rattle.elf_image.specs.ImageModel.{segment_model}
use Rattle.elf_notes.specs.Notes.{has_range}
use Rattle.elf_notes.proofs.headers.is_in_any.Given as goal

-- no segment so far has the range
abbrev pub invariant-loop-segment : goal.invariant-loop-segment
invariant-loop-segment l = list_any (has_range (range l.start l.size)) (map segment_model (drop l.segment-index l.segments)) ≡ list_any (has_range (range l.start l.size)) (map segment_model l.segments)
