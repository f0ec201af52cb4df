use Rattle.std.proofs.Common.{◌≡◌, drop, map}
use Rattle.elf_image.specs.ImageModel.{section_model}
use Rattle.arwen_cli_facts.specs.ElfFacts.{size_of_type}
use Rattle.arwen_cli_facts.proofs.elf.size_of_type.Given as goal

-- none of the sections so far is of the type
abbrev pub invariant-loop-section : goal.invariant-loop-section
invariant-loop-section l = size_of_type l.kind (map section_model (drop l.section-index l.sections)) ≡ size_of_type l.kind (map section_model l.sections)
