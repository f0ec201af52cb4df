-- Rounds lead to the number that is looked with, and come nearer to their end.
use Rattle.elf_layout_reasons.proofs.RoundsEnd.{nearer_end, none_before, one_before, stuck_now}
use Rattle.elf_layout_reasons.proofs.rounds.stuck_count.Goals as goal

pub returns-in_default-clause-stuck : goal.returns-in_default-clause-stuck
returns-in_default-clause-stuck c = stuck_now c.args.r.now 0 (none_before c.args.r.now) (rw c.in_default.is at c.in_ok-known.ensures.stuck)

pub loop-known-init : goal.loop-known-init
loop-known-init c = record { before = none_before c.args.r.now; known = rw c.in-Some.is at c.in_ok-known.ensures.is }

pub loop-known-preserved : goal.loop-known-preserved
loop-known-preserved c = record {
  before = one_before c.args.r.now c.loop-known.looked c.in-Some-2.needed c.loop-known.invariant.before (rw c.in-Some-2.is at c.in_ok-needed.ensures.needed)
      c.if-needed-looked.false;
  known = rw c.in-Some-2.is at c.in_ok-needed.ensures.known;
}

pub loop-known-smaller : goal.loop-known-smaller
loop-known-smaller c =
    nearer_end c.args.r.now c.loop-known.looked c.in-Some-2.needed (rw c.in-Some-2.is at c.in_ok-needed.ensures.needed) c.if-needed-looked.false
