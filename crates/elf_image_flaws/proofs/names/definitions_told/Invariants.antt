use Rattle.std.proofs.Common.{◌≡◌, drop}
use Rattle.std.specs.Prelude.{nat_lt}
use Rattle.elf_image_flaws.specs.Flaws.{definitions_told}
use Rattle.elf_image_flaws.proofs.names.definitions_told.Given as goal

-- what is told of those that are left is told of all
abbrev pub invariant-loop-definition : goal.invariant-loop-definition
invariant-loop-definition l = definitions_told (λ place. nat_lt place l.end) (drop l.definition-index l.definitions) ≡ definitions_told (λ place. nat_lt place l.end) l.definitions
