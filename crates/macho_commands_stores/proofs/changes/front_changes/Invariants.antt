use Rattle.std.proofs.Common.{◌≡◌, ◌≤◌, length, drop, All}
use Rattle.byte_store.specs.Laid.{LiesIn, laid, patches_of}
use Rattle.arwen_macho.specs.Fronts.{fronts_on}
use Rattle.macho_commands_stores.proofs.changes.front_changes.Given as goal

abbrev pub invariant-loop-left : goal.invariant-loop-left
invariant-loop-left l = record {
  inside : All (LiesIn (length l.initial.bytes)) (patches_of l.pieces.items);
  same : laid (patches_of l.pieces.items) l.initial.bytes ≡ l.bytes;
  done : l.bytes ≡ fronts_on (drop l.left l.fronts) l.initial.bytes;
  bound : l.left ≤ length l.fronts;
}

abbrev pub decreases-loop-left : goal.decreases-loop-left
decreases-loop-left l = l.left
