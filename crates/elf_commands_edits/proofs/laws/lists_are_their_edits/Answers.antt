use Rattle.elf_commands_edits.proofs.ListLaws.{lists_are_their_edits}
use Rattle.elf_commands_edits.proofs.laws.lists_are_their_edits.Goals as goal

pub returns : goal.returns
returns c = lists_are_their_edits c.edits_show.ensures c.batches_are_their_edits.ensures c.symbol_edits_keep.ensures
