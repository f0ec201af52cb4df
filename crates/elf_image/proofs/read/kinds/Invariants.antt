use Rattle.std.proofs.Common.{◌≡◌, take, map}
use Rattle.elf_image_versions.specs.Read.{parts_model}
use Rattle.elf_format.specs.Rules.{data_of}
use Rattle.elf_image.proofs.read.kinds.Given as goal

abbrev pub invariant-loop-section : goal.invariant-loop-section
invariant-loop-section l = l.made.items ≡ map (data_of (parts_model l.parts)) (take l.section-index l.parts.sections.items)
