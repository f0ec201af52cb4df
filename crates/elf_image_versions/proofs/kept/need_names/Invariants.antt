use Rattle.std.proofs.Common.{◌≡◌, drop, map}
use Rattle.patch_bytes.specs.Memory.{memory_of}
use Rattle.elf_format.specs.Options.{each}
use Rattle.elf_format.specs.Versions.{shown_need_name}
use Rattle.elf_image_versions.specs.VersionsModel.{name_model}
use Rattle.elf_format.proofs.ForCallers.ReadingSteps.{with_front}
use Rattle.elf_image_versions.proofs.kept.need_names.Given as goal

-- what was made so far, and what the rest gives
abbrev pub invariant-loop-version : goal.invariant-loop-version
invariant-loop-version l =
    with_front (map name_model l.made.items) (each (shown_need_name l.room (memory_of l.texts)) (drop l.version-index l.versions))
    ≡ each (shown_need_name l.room (memory_of l.texts)) l.versions
