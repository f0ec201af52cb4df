use Rattle.std.proofs.Common.{◌≡◌}
use Rattle.byte_store.specs.Causes.{HasFailed}
use Rattle.byte_store.specs.Counts.{Rises}
use Rattle.byte_store.specs.Known.{Stays}
use Rattle.byte_store.proofs.writing.put_some.Given as goal

abbrev pub invariant-loop-tried : goal.invariant-loop-tried
invariant-loop-tried g l = record {
  opened : g.S.Store.is_writable l.store ≡ g.S.Store.is_writable l.initial.store;
  kept : Stays (g.S.Store.contents l.initial.store) (g.S.Store.contents l.store);
  counted : Rises l._tried l._tried (g.S.Store.failed l.initial.store) (g.S.Store.failed l.store);
  failed : HasFailed g.S.Store.may_fail_write l._tried (g.S.Store.failed l.initial.store) (g.S.Store.failed l.store);
}
