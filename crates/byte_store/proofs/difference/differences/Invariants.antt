use Rattle.std.proofs.Common.{◌≡◌, ◌++◌, ◌-◌, ◌≤◌, [], All, drop, length, take}
use Rattle.byte_store.specs.Composed.{IsChange, Stands}
use Rattle.byte_store.specs.Laid.{LiesIn, laid, patches_of}
use Rattle.byte_store.proofs.difference.differences.Given as goal

abbrev pub invariant-loop-at : goal.invariant-loop-at
invariant-loop-at l = record {
  within : l.at ≤ length l.new;
  inside : All (LiesIn (length l.old)) (patches_of l.pieces.items);
  makes : laid (patches_of l.pieces.items) l.old ≡ take l.at l.new ++ drop l.at l.old;
  stand : All (Stands l.new) (patches_of l.pieces.items);
  changes : All (IsChange l.old) (patches_of l.pieces.items);
  idle : l.old ≡ l.new → l.pieces.items ≡ [];
}

abbrev pub decreases-loop-at : goal.decreases-loop-at
decreases-loop-at l = length l.new - l.at
