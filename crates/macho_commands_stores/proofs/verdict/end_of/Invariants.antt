use Rattle.std.proofs.Common.{◌≤◌, ◌-◌, length}
use Rattle.macho_commands_stores.proofs.verdict.end_of.Given as goal

abbrev pub invariant-loop-end : goal.invariant-loop-end
invariant-loop-end l = record {
  begins : l.begin ≤ l.end;
  ends : l.end ≤ length l.unfit;
}

abbrev pub decreases-loop-end : goal.decreases-loop-end
decreases-loop-end l = length l.unfit - l.end
