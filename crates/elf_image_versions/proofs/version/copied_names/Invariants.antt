use Rattle.std.proofs.Common.{◌≡◌, take, map}
use Rattle.elf_image_versions.specs.VersionsModel.{name_model}
use Rattle.elf_image_versions.proofs.version.copied_names.Given as goal

abbrev pub invariant-loop-version : goal.invariant-loop-version
invariant-loop-version l = map name_model l.made.items ≡ map name_model (take l.version-index l.versions)
