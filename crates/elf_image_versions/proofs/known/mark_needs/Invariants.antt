use Rattle.std.proofs.Common.{◌≡◌, drop, map}
use Rattle.std.specs.List.{flat_map}
use Rattle.elf_image_versions.specs.WalkSteps.{marked}
use Rattle.elf_image_versions.proofs.known.mark_needs.Given as goal

-- the rest still to be marked gives all marks
abbrev pub invariant-loop-need : goal.invariant-loop-need
invariant-loop-need l =
    marked (flat_map (λ n. map (λ v. v.index) n.versions) (drop l.need-index l.needs)) l.marks ≡ marked (flat_map (λ n. map (λ v. v.index) n.versions) l.needs) l.initial.marks
