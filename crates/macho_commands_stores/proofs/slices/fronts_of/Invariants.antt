-- The fronts so far are those of the slices so far.
use Rattle.std.proofs.Common.{◌≤◌, take}
use Rattle.byte_store.specs.Known.{Stays}
use Rattle.macho_commands_stores.specs.Slices.{AreFrontsOf}
use Rattle.macho_commands_stores.proofs.slices.fronts_of.Given as goal

abbrev pub invariant-loop-arch : goal.invariant-loop-arch
invariant-loop-arch g l = record {
  fronts : AreFrontsOf (g.S.Store.contents l.initial.store) (take l.arch-index l.archs) l.fronts.items;
  kept : Stays (g.S.Store.contents l.initial.store) (g.S.Store.contents l.store);
  grows : g.S.Store.failed l.initial.store ≤ g.S.Store.failed l.store;
}
