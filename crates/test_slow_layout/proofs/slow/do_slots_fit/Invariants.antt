use Rattle.std.proofs.Common.{ℕ, ◌<◌, slice_index_or}
use Rattle.test_slow_layout.specs.Slow.{DoesSlotFit}
use Rattle.test_slow_layout.specs.declared.standing.Slot.{Slot}
use Rattle.test_slow_layout.proofs.slow.do_slots_fit.Given as goal

-- where the sections so far stand fits
abbrev pub invariant-loop-slot : goal.invariant-loop-slot
invariant-loop-slot l = (k : ℕ) (d : Slot) → k < l.slot-index → DoesSlotFit l.plain (slice_index_or l.slots k d)
