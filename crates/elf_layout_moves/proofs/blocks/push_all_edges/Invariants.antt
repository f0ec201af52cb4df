use Rattle.std.proofs.Common.{◌≡◌, ◌++◌, drop, map}
use Rattle.std.specs.List.{flat_map}
use Rattle.elf_format.specs.File.{loads_of}
use Rattle.elf_image.specs.ImageModel.{segment_model}
use Rattle.elf_layout_plan.specs.Memory.{edge_blocks}
use Rattle.elf_layout_moves.proofs.blocks.push_all_edges.Given as goal

abbrev pub invariant-loop-p : goal.invariant-loop-p
invariant-loop-p l =
    l.made.items ++ flat_map edge_blocks (loads_of (map segment_model (drop l.p-index l.segments)))
    ≡ l.fn.made.items ++ flat_map edge_blocks (loads_of (map segment_model l.segments))
