use Rattle.std.proofs.Common.{◌≡◌, drop, map}
use Rattle.elf_image_versions.specs.WalkSteps.{marked}
use Rattle.elf_image_versions.proofs.known.mark_definitions.Given as goal

-- the rest still to be marked gives all marks
abbrev pub invariant-loop-definition : goal.invariant-loop-definition
invariant-loop-definition l = marked (map (λ d. d.index) (drop l.definition-index l.definitions)) l.marks ≡ marked (map (λ d. d.index) l.definitions) l.initial.marks
