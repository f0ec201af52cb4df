use Rattle.std.proofs.Common.{◌≡◌, ◌++◌, drop, map}
use Rattle.elf_image.specs.ImageModel.{section_model}
use Rattle.elf_layout_sizes.proofs.texts.Texts.push_sections.Given as goal

-- what is there so far, with the names that are left, is all of it
abbrev pub invariant-loop-section : goal.invariant-loop-section
invariant-loop-section l = l.self ++ map (λ s. s.name) (map section_model (drop l.section-index l.sections)) ≡ l.initial.self ++ map (λ s. s.name) (map section_model l.sections)
