use Rattle.std.proofs.Common.{ℕ, ◌<◌, get_or}
use Rattle.elf_image_versions.specs.declared.version.VersionNeedName.{VersionNeedName}
use Rattle.elf_write_strings.specs.VersionPlaces.{HasMore, TellsName}
use Rattle.elf_write_strings.proofs.versions.needing.place_need_names.Given as goal

-- the names so far are placed
abbrev pub invariant-loop-i : goal.invariant-loop-i
invariant-loop-i l = record {
  more : HasMore l.initial.table l.table;
  told : (k : ℕ) (v : VersionNeedName) → k < l.i → TellsName l.table (get_or l.versions k v);
}
