-- The set has the libraries that are needed.
use Rattle.std.proofs.Common.{map}
use Rattle.std.specs.HashSet.{keys}
use Rattle.elf_image.specs.ImageModel.{entry_model}
use Rattle.elf_edits.specs.TextModel.{texts_model}
use Rattle.elf_edits.proofs.ListSteps.{new_by_set}
use Rattle.elf_edits.proofs.list.new_needed.Goals as goal

pub returns : goal.returns
returns c = new_by_set c.entries_for_new.result (keys c.in_ok-set.set) (texts_model c.args.names.now) (map entry_model c.args.entries.now) c.in_ok-set.ensures c.entries_for_new.ensures
