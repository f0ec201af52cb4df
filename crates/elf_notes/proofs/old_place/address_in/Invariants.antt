use Rattle.std.proofs.Common.{◌≡◌, drop, map}
use Rattle.elf_image.specs.ImageModel.{segment_model}
use Rattle.elf_notes.specs.Notes.{dynamic_address}
use Rattle.elf_notes.proofs.old_place.address_in.Given as goal

-- no program header so far is that of the dynamic section
abbrev pub invariant-loop-segment : goal.invariant-loop-segment
invariant-loop-segment l = dynamic_address (map segment_model l.segments) ≡ dynamic_address (map segment_model (drop l.segment-index l.segments))
