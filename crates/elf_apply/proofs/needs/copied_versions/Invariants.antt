use Rattle.std.proofs.Common.{◌≡◌, map, take}
use Rattle.elf_image.specs.ImageModel.{name_model}
use Rattle.elf_apply.proofs.needs.copied_versions.Given as goal

-- the versions so far
abbrev pub invariant-loop-version : goal.invariant-loop-version
invariant-loop-version l = map name_model l.made.items ≡ map name_model (take l.version-index l.versions)
