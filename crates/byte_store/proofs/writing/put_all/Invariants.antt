use Rattle.std.proofs.Common.{length, ◌-◌, ◌*◌, ◌≡◌, ◌≤◌, take}
use Rattle.byte_store.specs.Counts.{Rises}
use Rattle.byte_store.specs.Known.{Puts}
use Rattle.byte_store.proofs.writing.put_all.Given as goal

abbrev pub invariant-loop-done : goal.invariant-loop-done
invariant-loop-done g l = record {
  opened : g.S.Store.is_writable l.store ≡ g.S.Store.is_writable l.initial.store;
  counted : Rises 0 (1000 * l.done) (g.S.Store.failed l.initial.store) (g.S.Store.failed l.store);
  within : l.done ≤ length l.part;
  written : Puts l.offset (take l.done l.part) (g.S.Store.contents l.initial.store) (g.S.Store.contents l.store);
  idle : l.done ≡ 0 → l.store ≡ l.initial.store;
}

abbrev pub decreases-loop-done : goal.decreases-loop-done
decreases-loop-done g l = length l.part - l.done
