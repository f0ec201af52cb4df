use Rattle.std.proofs.Common.{◌≡◌, ◌≤◌, ℕ, length, map, vec_capacity}
use Rattle.elf_format.specs.Image.{counted}
use Rattle.elf_image_symbols.specs.Changes.{change_at, change_of, number_of}
use Rattle.elf_image_symbols.specs.Rising.{AreRising}
use Rattle.elf_image_symbols.proofs.changes.spread_changes.Given as goal

-- what is left tells of the symbols that are left what all tell of them
abbrev pub invariant-loop-number : goal.invariant-loop-number
invariant-loop-number l = record {
  made : l.spread.items ≡ map (change_at l.table l.changes) (counted l.number);
  room : l.count ≤ vec_capacity l.spread;
  rising : AreRising l.number (length l.table) (map number_of l.rest);
  same : (m : ℕ) → l.number ≤ m → change_of l.rest m ≡ change_of l.changes m;
}
