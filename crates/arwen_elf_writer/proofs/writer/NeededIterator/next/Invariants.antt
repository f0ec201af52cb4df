use Rattle.std.proofs.Common.{◌≡◌, length}
use Rattle.std.specs.Slice.Iter.{iter_rest}
use Rattle.arwen_elf_writer.specs.WriterModel.{needed_left}
use Rattle.arwen_elf_writer.proofs.writer.NeededIterator.next.Given as goal

-- no entry so far is a needed library
abbrev pub invariant-loop-entry : goal.invariant-loop-entry
invariant-loop-entry l = needed_left l.self ≡ needed_left l.initial.self

abbrev pub decreases-loop-entry : goal.decreases-loop-entry
decreases-loop-entry l = length (iter_rest l.self.rest)
