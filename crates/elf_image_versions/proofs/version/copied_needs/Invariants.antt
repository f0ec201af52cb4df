use Rattle.std.proofs.Common.{◌≡◌, take, map}
use Rattle.elf_image_versions.specs.VersionsModel.{needs_model}
use Rattle.elf_image_versions.proofs.version.copied_needs.Given as goal

abbrev pub invariant-loop-need : goal.invariant-loop-need
invariant-loop-need l = map needs_model l.made.items ≡ map needs_model (take l.need-index l.needs)
