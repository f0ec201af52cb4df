-- The parts of the slices so far.
use Rattle.std.proofs.Common.{◌≡◌, map, take}
use Rattle.macho_signing.specs.File.{slice_part}
use Rattle.macho_signing.proofs.file.slice_parts.Given as goal

abbrev pub invariant-loop-arch : goal.invariant-loop-arch
invariant-loop-arch l = l.parts.items ≡ map slice_part (take l.arch-index l.archs)
