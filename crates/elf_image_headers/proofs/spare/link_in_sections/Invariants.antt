use Rattle.std.proofs.Common.{◌≡◌, drop, map}
use Rattle.elf_image_headers.specs.PartModels.{section_model}
use Rattle.elf_image_headers.specs.Spare.{link_in_sections}
use Rattle.elf_image_headers.proofs.spare.link_in_sections.Given as goal

abbrev pub invariant-loop-section : goal.invariant-loop-section
invariant-loop-section l = link_in_sections l.kind (map section_model (drop l.section-index l.sections)) ≡ link_in_sections l.kind (map section_model l.sections)
