use Rattle.std.proofs.Common.{◌≡◌, ◌+◌, ◌<◌, ◌^◌, drop, map}
use Rattle.elf_image.specs.ImageModel.{definition_model}
use Rattle.elf_layout_plan.specs.Sizes.{definitions_size}
use Rattle.elf_layout_sizes.proofs.versions.definitions_size.Given as goal

-- the size so far, with that of the records that are left
abbrev pub invariant-loop-definition : goal.invariant-loop-definition
invariant-loop-definition l =
    (l.size < 2 ^ 64)
    × (l.size + definitions_size (map definition_model (drop l.definition-index l.definitions)) ≡ definitions_size (map definition_model l.definitions))
