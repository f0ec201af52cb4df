use Rattle.std.proofs.Common.{map}
use Rattle.arwen_c_edits.specs.ElfEdits.{elf_edit_read, read_model}
use Rattle.arwen_c_edits.proofs.ListSteps.{IsReadTo}
use Rattle.arwen_c_edits.proofs.elf_list.read_elf_edits.Given as goal

abbrev pub invariant-loop-index : goal.invariant-loop-index
invariant-loop-index l = IsReadTo elf_edit_read l.edits l.index (map read_model l.read.items)
