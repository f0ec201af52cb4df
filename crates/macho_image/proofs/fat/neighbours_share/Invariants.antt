use Rattle.std.proofs.Common.{◌≡◌, drop}
use Rattle.macho_image.proofs.FatSteps.{meets_last}
use Rattle.macho_image.proofs.fat.neighbours_share.Given as goal

abbrev pub invariant-loop-arch : goal.invariant-loop-arch
invariant-loop-arch l = meets_last l.last_end (drop l.arch-index l.archs) ≡ meets_last 0 l.archs
