use Rattle.std.proofs.Common.{◌≡◌, ◌+◌, ◌≤◌, drop, length, map}
use Rattle.elf_tables.specs.ImageModel.{entry_model}
use Rattle.elf_layout_plan.specs.Staying.{staying_entries}
use Rattle.elf_layout_plan.proofs.entries.count_staying.Given as goal

-- the entries so far and those that stay of what is left
abbrev pub invariant-loop-entry : goal.invariant-loop-entry
invariant-loop-entry l =
    (l.count ≤ l.entry-index)
    × (l.count + length (staying_entries l.without_needs (map entry_model (drop l.entry-index l.entries))) ≡ length (staying_entries l.without_needs (map entry_model l.entries)))
