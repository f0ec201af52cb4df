-- The slots so far are those of the slices so far.
use Rattle.std.proofs.Common.{◌≤◌, map, take}
use Rattle.byte_store.specs.Composed.{owned_patches}
use Rattle.byte_store.specs.Known.{Stays}
use Rattle.macho_commands_stores.specs.Renewing.{SignsFronts}
use Rattle.macho_commands_stores.proofs.renewing.load_slots.Given as goal

abbrev pub invariant-loop-i : goal.invariant-loop-i
invariant-loop-i g l = record {
  signs : SignsFronts (g.S.Store.contents l.initial.store) (take l.i l.fronts) (take l.i (map (λ new. new.items) l.edited)) (owned_patches l.pieces.items) l.are_some_left;
  kept : Stays (g.S.Store.contents l.initial.store) (g.S.Store.contents l.store);
  grows : g.S.Store.failed l.initial.store ≤ g.S.Store.failed l.store;
}
