use Rattle.std.proofs.Common.{◌≡◌, drop, map}
use Rattle.elf_format.specs.Image.{section_read}
use Rattle.elf_image.specs.ImageModel.{section_model}
use Rattle.elf_format.specs.Options.{each}
use Rattle.elf_image_versions.specs.Read.{parts_model}
use Rattle.elf_format.proofs.ForCallers.ReadingSteps.{with_front}
use Rattle.elf_image.proofs.read.texts.sections.sections.Given as goal

-- what was made so far, and what the rest gives
abbrev pub invariant-loop-i : goal.invariant-loop-i
invariant-loop-i l =
    with_front (map section_model l.made.items) (each (section_read (parts_model l.parts)) (drop l.i l.parts.sections.items))
    ≡ each (section_read (parts_model l.parts)) l.parts.sections.items
