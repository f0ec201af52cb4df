-- The program headers so far have the alignment.
use Rattle.std.proofs.Common.{◌≡◌, ◌++◌, map, take, drop, length}
use Rattle.elf_image_headers.specs.PartModels.{segment_model}
use Rattle.elf_image_headers.specs.Segments.{with_align}
use Rattle.elf_image_headers.proofs.segments.align_loads.Given as goal

abbrev pub invariant-loop-i : goal.invariant-loop-i
invariant-loop-i l =
    (map segment_model l.segments.items ≡ map (with_align l.fn.align) (take l.i (map segment_model l.initial.segments.items)) ++ drop l.i (map segment_model l.initial.segments.items))
    × (length l.segments.items ≡ length l.initial.segments.items)
