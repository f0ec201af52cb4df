use Rattle.std.proofs.Common.{◌≤◌, ◌-◌, vec_len}
use Rattle.byte_store.specs.Causes.{HasFailed}
use Rattle.byte_store.specs.Known.{IsFront, Stays}
use Rattle.byte_store.proofs.reading.load_into.Given as goal

abbrev pub invariant-loop-read : goal.invariant-loop-read
invariant-loop-read g l = record {
  front : IsFront (g.S.Store.contents l.initial.store) l.bytes.items;
  bound : vec_len l.bytes ≤ l.most;
  kept : Stays (g.S.Store.contents l.initial.store) (g.S.Store.contents l.store);
  grows : g.S.Store.failed l.initial.store ≤ g.S.Store.failed l.store;
  failed : HasFailed g.S.Store.may_fail_read (l._read - vec_len l.bytes) (g.S.Store.failed l.initial.store) (g.S.Store.failed l.store);
}
