use Rattle.std.proofs.Common.{◌≡◌, drop, map}
use Rattle.std.specs.List.{list_any}
use Rattle.elf_image.specs.ImageModel.{segment_model}
use Rattle.elf_notes.specs.Notes.{shares_page}
use Rattle.elf_notes.proofs.headers.does_any_share.Given as goal

-- no segment so far shares the page
abbrev pub invariant-loop-segment : goal.invariant-loop-segment
invariant-loop-segment l = list_any (shares_page l.offset) (map segment_model (drop l.segment-index l.segments)) ≡ list_any (shares_page l.offset) (map segment_model l.segments)
