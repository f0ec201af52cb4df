use Rattle.std.proofs.Common.{ℕ, List}
use Rattle.elf_layout_segments.specs.Leasts.{AreLeastOf}
use Rattle.elf_layout_segments.proofs.LeastSteps.{AreDoubled}
use Rattle.elf_layout_segments.proofs.leasts.doubled.Given as goal

abbrev pub invariant-loop-place : goal.invariant-loop-place
invariant-loop-place l = (numbers : List ℕ) → AreLeastOf numbers l.width l.row → AreDoubled numbers l.width l.place l.made.items
