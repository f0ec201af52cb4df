use Rattle.std.proofs.Common.{◌≡◌, ◌+◌, ◌<◌, ◌^◌, drop, map}
use Rattle.elf_image.specs.ImageModel.{needs_model}
use Rattle.elf_layout_plan.specs.Sizes.{needs_size}
use Rattle.elf_layout_plan.specs.Staying.{unmarked_needs}
use Rattle.elf_layout_sizes.proofs.versions.needs_size.Given as goal

-- the size so far, with that of the records that are left
abbrev pub invariant-loop-need : goal.invariant-loop-need
invariant-loop-need l =
    (l.size < 2 ^ 64)
    × (l.size + needs_size (unmarked_needs l.staying.marks (map needs_model (drop l.need-index l.needs))) ≡ needs_size (unmarked_needs l.staying.marks (map needs_model l.needs)))
