use Rattle.std.proofs.Common.{◌≡◌, ◌≤◌, take, vec_capacity}
use Rattle.elf_image_symbols.proofs.changes.copy_changes.Given as goal

abbrev pub invariant-loop-change : goal.invariant-loop-change
invariant-loop-change l = record {
  copied : l.copy.items ≡ take l.change-index l.changes;
  room : l.room ≤ vec_capacity l.copy;
}
