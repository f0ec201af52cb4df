use Rattle.std.proofs.Common.{ℕ, List}
use Rattle.elf_layout_segments.specs.Leasts.{AreLeastBelow, AreLeastOf}
use Rattle.elf_layout_segments.proofs.LeastSteps.{AreAnswered}
use Rattle.elf_layout_segments.proofs.leasts.answer.Given as goal

abbrev pub invariant-loop-j : goal.invariant-loop-j
invariant-loop-j l = (numbers : List ℕ) → AreLeastOf numbers l.width l.row → AreLeastBelow numbers l.asked l.width l.fn.answers → AreAnswered numbers l.asked l.width l.j l.answers
