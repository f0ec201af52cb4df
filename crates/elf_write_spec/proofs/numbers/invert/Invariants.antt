use Rattle.std.proofs.Common.{◌≡◌, ◌<◌, ℕ, get_or}
use Rattle.elf_write_spec.proofs.numbers.invert.Given as goal

-- the positions so far have their numbers
abbrev pub invariant-loop-i : goal.invariant-loop-i
invariant-loop-i l = (k : ℕ) → k < l.i → get_or l.numbers (get_or l.order k 0) 0 ≡ k
