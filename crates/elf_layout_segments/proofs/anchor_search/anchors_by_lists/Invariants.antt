use Rattle.std.proofs.Common.{◌≡◌, map, take}
use Rattle.elf_image.specs.ImageModel.{segment_model}
use Rattle.elf_layout_segments.specs.AnchorPositions.{anchor_model}
use Rattle.elf_layout_segments.specs.AnchorSearch.{SearchedLists, anchor_position_of}
use Rattle.elf_layout_segments.specs.AnchorLists.{AreLists}
use Rattle.elf_layout_segments.proofs.anchor_search.anchors_by_lists.Given as goal

abbrev pub invariant-loop-segment : goal.invariant-loop-segment
invariant-loop-segment l =
    (looked : SearchedLists) → AreLists looked l.lists → map anchor_model l.made.items ≡ map (λ s. anchor_position_of looked (segment_model s)) (take l.segment-index l.segments)
