use Rattle.std.proofs.Common.{◌≡◌, drop, map}
use Rattle.patch_bytes.specs.Memory.{memory_of}
use Rattle.elf_format.specs.Options.{each}
use Rattle.elf_image_versions.specs.VersionsModel.{definition_model}
use Rattle.elf_format.specs.Versions.{shown_definition}
use Rattle.elf_format.proofs.ForCallers.ReadingSteps.{with_front}
use Rattle.elf_image_versions.proofs.kept.kept_definitions.Given as goal

-- what was made so far, and what the rest gives
abbrev pub invariant-loop-raw : goal.invariant-loop-raw
invariant-loop-raw l =
    with_front (map definition_model l.made.items) (each (shown_definition l.room (memory_of l.texts)) (drop l.raw-index l.walked))
    ≡ each (shown_definition l.room (memory_of l.texts)) l.walked
