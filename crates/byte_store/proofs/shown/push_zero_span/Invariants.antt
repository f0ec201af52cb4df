use Rattle.std.proofs.Common.{◌-◌, ◌≤◌, ◌∷◌, []}
use Rattle.byte_store.specs.Shown.{Adds}
use Rattle.byte_store.proofs.ShownLaws.{zeros_to}
use Rattle.byte_store.proofs.shown.push_zero_span.Given as goal

abbrev pub invariant-loop-at : goal.invariant-loop-at
invariant-loop-at l = record {
  start : l.span.start ≤ l.at;
  end : l.at ≤ l.span.end;
  adds : Adds l.front (zeros_to l.span.start l.at ∷ []) l.initial.changes.items l.changes.items;
}

abbrev pub decreases-loop-at : goal.decreases-loop-at
decreases-loop-at l = l.span.end - l.at
