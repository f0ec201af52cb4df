use Rattle.std.proofs.Common.{take}
use Rattle.byte_store.specs.Shown.{Adds, zero_patches}
use Rattle.byte_store.proofs.shown.push_zeros.Given as goal

abbrev pub invariant-loop-span : goal.invariant-loop-span
invariant-loop-span l = Adds l.front (zero_patches (take l.span-index l.spans)) l.initial.changes.items l.changes.items
