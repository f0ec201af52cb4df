use Rattle.std.proofs.Common.{ℕ, ◌<◌, get_or}
use Rattle.elf_image_versions.specs.declared.version.VersionNeed.{VersionNeed}
use Rattle.elf_write_strings.specs.VersionPlaces.{HasMore, TellsNeed}
use Rattle.elf_write_strings.proofs.versions.needing.place_needs.Given as goal

-- the texts of the libraries so far are placed
abbrev pub invariant-loop-i : goal.invariant-loop-i
invariant-loop-i l = record {
  more : HasMore l.initial.table l.table;
  told : (k : ℕ) (n : VersionNeed) → k < l.i → TellsNeed l.table (get_or l.needs k n);
}
