use Rattle.std.proofs.Common.{◌≡◌, take, map}
use Rattle.elf_image_versions.specs.VersionsModel.{definition_model}
use Rattle.elf_image_versions.proofs.version.copied_definitions.Given as goal

abbrev pub invariant-loop-definition : goal.invariant-loop-definition
invariant-loop-definition l = map definition_model l.made.items ≡ map definition_model (take l.definition-index l.definitions)
