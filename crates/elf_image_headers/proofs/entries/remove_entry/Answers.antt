use Rattle.std.proofs.Common.{ap, ◌∙◌, map}
use Rattle.elf_image_headers.specs.PartModels.{entry_model}
use Rattle.elf_image_headers.proofs.EditSteps.{map_remove}
use Rattle.elf_image_headers.proofs.entries.remove_entry.Goals as goal

pub returns : goal.returns
returns c = ap (map entry_model) c.remove.ensures.items ∙ map_remove entry_model c.args.list.now.items c.args.index
