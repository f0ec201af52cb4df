use Rattle.std.proofs.Common.{◌≡◌, drop, map}
use Rattle.std.specs.Prelude.{is_some}
use Rattle.elf_image.specs.ImageModel.{segment_model}
use Rattle.elf_layout_plan.specs.Memory.{loaded_over}
use Rattle.elf_layout.proofs.tables.is_range_loaded.Given as goal

abbrev pub invariant-loop-segment : goal.invariant-loop-segment
invariant-loop-segment l =
    is_some (loaded_over (record { start = l.start; size = l.size }) (drop l.segment-index (map segment_model l.segments)))
    ≡ is_some (loaded_over (record { start = l.start; size = l.size }) (map segment_model l.segments))
