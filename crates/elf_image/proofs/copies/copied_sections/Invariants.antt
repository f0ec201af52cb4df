use Rattle.std.proofs.Common.{◌≡◌, take, map}
use Rattle.elf_image.specs.ImageModel.{section_model}
use Rattle.elf_image.proofs.copies.copied_sections.Given as goal

abbrev pub invariant-loop-section : goal.invariant-loop-section
invariant-loop-section l = map section_model l.made.items ≡ map section_model (take l.section-index l.sections)
