use Rattle.std.proofs.Common.{◌-◌, ◌≤◌, length}
use Rattle.byte_store.proofs.difference.end_of_run.Given as goal

abbrev pub invariant-loop-end : goal.invariant-loop-end
invariant-loop-end l = record {
  begin : l.begin ≤ l.end;
  within : l.end ≤ length l.new;
}

abbrev pub decreases-loop-end : goal.decreases-loop-end
decreases-loop-end l = length l.new - l.end
