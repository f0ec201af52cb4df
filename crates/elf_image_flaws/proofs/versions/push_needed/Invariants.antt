use Rattle.std.proofs.Common.{◌≡◌, ◌++◌, take}
use Rattle.elf_image_versions.specs.WalkSteps.{indices_needed}
use Rattle.elf_image_flaws.proofs.versions.push_needed.Given as goal

-- the indices so far
abbrev pub invariant-loop-need : goal.invariant-loop-need
invariant-loop-need l = l.known.items ≡ l.initial.known.items ++ indices_needed (take l.need-index l.needs)
