-- The map has the values of the pairs.
use Rattle.std.proofs.Common.{map}
use Rattle.elf_image.specs.ImageModel.{entry_model}
use Rattle.elf_edits.specs.TextModel.{pairs_model}
use Rattle.elf_edits.proofs.ListSteps.{replace_by_map}
use Rattle.elf_edits.proofs.list.replace_needed.Goals as goal

pub returns : goal.returns
returns c = replace_by_map c.change_where.result c.in_ok-names.names.entries (pairs_model c.args.pairs.now) (map entry_model c.args.entries.now) c.in_ok-names.ensures c.change_where.ensures
