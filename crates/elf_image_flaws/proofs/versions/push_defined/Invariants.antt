use Rattle.std.proofs.Common.{◌≡◌, ◌++◌, take}
use Rattle.elf_image_versions.specs.WalkSteps.{indices_defined}
use Rattle.elf_image_flaws.proofs.versions.push_defined.Given as goal

-- the indices so far
abbrev pub invariant-loop-definition : goal.invariant-loop-definition
invariant-loop-definition l = l.known.items ≡ l.initial.known.items ++ indices_defined (take l.definition-index l.definitions)
