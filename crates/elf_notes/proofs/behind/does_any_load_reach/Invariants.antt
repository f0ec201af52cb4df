use Rattle.std.proofs.Common.{◌≡◌, drop, map}
use Rattle.std.specs.List.{list_any}
use Rattle.elf_image.specs.ImageModel.{segment_model}
use Rattle.elf_notes.specs.Notes.{does_load_reach}
use Rattle.elf_notes.proofs.behind.does_any_load_reach.Given as goal

-- no segment so far reaches the end of the file
abbrev pub invariant-loop-segment : goal.invariant-loop-segment
invariant-loop-segment l = list_any (does_load_reach l.file_end) (map segment_model (drop l.segment-index l.segments)) ≡ list_any (does_load_reach l.file_end) (map segment_model l.segments)
