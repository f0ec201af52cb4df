-- Versions as they are kept, seen without where their texts lie.
use Rattle.std.specs.Prelude.{map, ◌≡◌}
use Rattle.patch_bytes.specs.ByteString.{bytes_of_each}
use Rattle.elf_image_versions.specs.declared.version.VersionDef.{VersionDef}
use Rattle.elf_image_versions.specs.declared.version.VersionNeed.{VersionNeed}
use Rattle.elf_image_versions.specs.declared.version.VersionNeedName.{VersionNeedName}
use Rattle.elf_image_versions.specs.declared.version.Versions.{Versions}
use Rattle.elf_format.specs.Versions.{VersionDefinition, VersionName, VersionNeeds}

abbrev pub definition_model : VersionDef → VersionDefinition
definition_model d = record { index = d.index; flags = d.flags; names = bytes_of_each d.names.items }

abbrev pub name_model : VersionNeedName → VersionName
name_model v = record { index = v.index; name = v.name.bytes; flags = v.flags }

abbrev pub needs_model : VersionNeed → VersionNeeds
needs_model n = record { file = n.file.bytes; versions = map name_model n.versions.items }

-- two show the same definitions and the same needs
pub record AreSameVersions (old new : Versions) : Type 0 where
  pub definitions : map definition_model new.definitions.items ≡ map definition_model old.definitions.items
  pub needs : map needs_model new.needs.items ≡ map needs_model old.needs.items
