use Rattle.std.proofs.Common.{◌≡◌, drop}
use Rattle.std.specs.Prelude.{nat_lt}
use Rattle.elf_image_flaws.specs.Flaws.{needs_told}
use Rattle.elf_image_flaws.proofs.names.needs_told.Given as goal

-- what is told of those that are left is told of all
abbrev pub invariant-loop-need : goal.invariant-loop-need
invariant-loop-need l = needs_told (λ place. nat_lt place l.end) (drop l.need-index l.needs) ≡ needs_told (λ place. nat_lt place l.end) l.needs
