use Rattle.std.proofs.Common.{ℕ, ◌<◌, get_or}
use Rattle.elf_image_versions.specs.declared.version.VersionDef.{VersionDef}
use Rattle.elf_write_strings.specs.VersionPlaces.{HasMore, TellsDefinition}
use Rattle.elf_write_strings.proofs.versions.placing.place_definitions.Given as goal

-- the names of the definitions so far are placed
abbrev pub invariant-loop-i : goal.invariant-loop-i
invariant-loop-i l = record {
  more : HasMore l.initial.table l.table;
  told : (k : ℕ) (d : VersionDef) → k < l.i → TellsDefinition l.table (get_or l.definitions k d);
}
