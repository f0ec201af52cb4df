use Rattle.std.proofs.Common.{◌≡◌, drop}
use Rattle.std.specs.Prelude.{◌==◌, find}
use Rattle.test_slow_layout.proofs.standing.slot_at.Given as goal

-- the slots that are left tell what all of them tell
abbrev pub invariant-loop-slot : goal.invariant-loop-slot
invariant-loop-slot l = find (λ s. s.position == l.position) (drop l.slot-index l.slots) ≡ find (λ s. s.position == l.position) l.slots
