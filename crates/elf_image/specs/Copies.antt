-- What a copy of an image holds.
use Rattle.std.specs.Prelude.{map, Option}
use Rattle.std.specs.Option.{option_map}
use Rattle.std.specs.Global.{Vec}
use Rattle.elf_image_headers.specs.declared.dynamic.Dynamic.{Dynamic}
use Rattle.elf_image_versions.specs.declared.version.Versions.{Versions}
use Rattle.elf_image.specs.ImageModel.{definition_model, entry_model, needs_model}
use Rattle.elf_image.specs.ImageSteps.{ListedParts}

-- a dynamic list and versions, as an image shows them
abbrev pub listed_parts_model : Option (Vec Dynamic) → Versions → ListedParts
listed_parts_model dynamic versions = record { entries = option_map (λ list. map entry_model list.items) dynamic; definitions = map definition_model versions.definitions.items; needs = map needs_model versions.needs.items }
