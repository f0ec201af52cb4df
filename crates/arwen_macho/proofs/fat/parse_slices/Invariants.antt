use Rattle.std.proofs.Common.{◌≡◌, drop, map, take}
use Rattle.macho_image.specs.Fat.{slice_of}
use Rattle.arwen_macho.specs.FatSlice.{first_macho}
use Rattle.arwen_macho.specs.Found.{slices_found}
use Rattle.arwen_macho.proofs.fat.parse_slices.Given as goal

-- what is left to parse shows what all shows
abbrev pub invariant-loop-arch : goal.invariant-loop-arch
invariant-loop-arch l = record {
  left : slices_found (map (slice_of l.bytes) (drop l.arch-index l.archs)) ≡ slices_found (map (slice_of l.bytes) l.archs);
  made : l.slices.items ≡ map (first_macho l.bytes) (take l.arch-index l.archs);
}
