use Rattle.macho_edits.specs.Batch.{calls_of}
use Rattle.arwen_c_edits.specs.MachoEdits.{macho_edit_read}
use Rattle.arwen_c_edits.proofs.ListSteps.{IsReadTo}
use Rattle.arwen_c_edits.proofs.macho_list.read_macho_edits.Given as goal

abbrev pub invariant-loop-index : goal.invariant-loop-index
invariant-loop-index l = IsReadTo macho_edit_read l.edits l.index (calls_of l.read.items)
