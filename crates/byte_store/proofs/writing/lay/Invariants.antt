use Rattle.std.proofs.Common.{◌≡◌, ◌≤◌, take}
use Rattle.byte_store.specs.Laid.{LaysOf, patches_of}
use Rattle.byte_store.proofs.writing.lay.Given as goal

abbrev pub invariant-loop-piece : goal.invariant-loop-piece
invariant-loop-piece g l = record {
  opened : g.S.Store.is_writable l.store ≡ g.S.Store.is_writable l.initial.store;
  grows : g.S.Store.failed l.initial.store ≤ g.S.Store.failed l.store;
  written : LaysOf (patches_of l.pieces) (take l.piece-index (patches_of l.pieces))
      (g.S.Store.contents l.initial.store) (g.S.Store.contents l.store);
  idle : l.piece-index ≡ 0 → l.store ≡ l.initial.store;
}
