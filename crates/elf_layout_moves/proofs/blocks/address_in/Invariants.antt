use Rattle.std.proofs.Common.{◌≡◌, drop, map}
use Rattle.elf_format.specs.Ranges.{range}
use Rattle.elf_image.specs.ImageModel.{segment_model}
use Rattle.elf_layout_plan.specs.Memory.{loaded_over}
use Rattle.elf_layout_moves.proofs.blocks.address_in.Given as goal

abbrev pub invariant-loop-p : goal.invariant-loop-p
invariant-loop-p l =
    loaded_over (range l.start l.size) (map segment_model (drop l.p-index l.segments)) ≡ loaded_over (range l.start l.size) (map segment_model l.segments)
