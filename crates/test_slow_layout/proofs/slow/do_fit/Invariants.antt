use Rattle.std.proofs.Common.{ℕ, ◌<◌, ◌≤◌, slice_index_or}
use Rattle.test_slow_layout.proofs.slow.do_fit.Given as goal

-- the numbers so far fit
abbrev pub invariant-loop-number : goal.invariant-loop-number
invariant-loop-number l = (k d : ℕ) → k < l.number-index → slice_index_or l.numbers k d ≤ l.plain.facts.most
