use Rattle.std.proofs.Common.{◌≡◌, drop}
use Rattle.elf_image_placement.specs.PlacementSteps.{follows_end}
use Rattle.elf_image_placement.proofs.placement.neighbours_apart.Given as goal

-- each so far begins behind the end before it
abbrev pub invariant-loop-e : goal.invariant-loop-e
invariant-loop-e l = follows_end l.end (drop l.e-index l.ranges) ≡ follows_end 0 l.ranges
