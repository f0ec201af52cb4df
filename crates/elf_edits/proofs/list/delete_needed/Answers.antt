-- The set has the names of the list.
use Rattle.std.proofs.Common.{map}
use Rattle.std.specs.HashSet.{keys}
use Rattle.elf_image.specs.ImageModel.{entry_model}
use Rattle.elf_edits.specs.TextModel.{texts_model}
use Rattle.elf_edits.proofs.ListSteps.{delete_by_set}
use Rattle.elf_edits.proofs.list.delete_needed.Goals as goal

pub returns : goal.returns
returns c = delete_by_set c.delete_where.result (keys c.in_ok-set.set) (texts_model c.args.names.now) (map entry_model c.args.entries.now) c.in_ok-set.ensures c.delete_where.ensures
