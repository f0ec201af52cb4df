use Rattle.std.proofs.Common.{ℕ, [], take}
use Rattle.elf_layout_moves.specs.Limits.{AreLimitsOf}
use Rattle.elf_layout_moves.proofs.limits.limits_of_moved.Given as goal

abbrev pub invariant-loop-position : goal.invariant-loop-position
invariant-loop-position l = (from : ℕ) → AreLimitsOf l.count from (take l.position-index l.moved) [] l.limits.items
