use Rattle.std.proofs.Common.{◌≡◌, length, take}
use Rattle.elf_layout_moves.proofs.Marking.{marking}
use Rattle.elf_layout_moves.proofs.marks.marks_of.Given as goal

abbrev pub invariant-loop-position : goal.invariant-loop-position
invariant-loop-position l = l.marks.items ≡ marking (take l.position-index l.moved) (length l.r.image.sections)
