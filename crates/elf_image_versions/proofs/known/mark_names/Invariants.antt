use Rattle.std.proofs.Common.{◌≡◌, drop, map}
use Rattle.elf_image_versions.specs.WalkSteps.{marked}
use Rattle.elf_image_versions.proofs.known.mark_names.Given as goal

-- the rest still to be marked gives all marks
abbrev pub invariant-loop-name : goal.invariant-loop-name
invariant-loop-name l = marked (map (λ v. v.index) (drop l.name-index l.names)) l.marks ≡ marked (map (λ v. v.index) l.names) l.initial.marks
