use Rattle.std.proofs.Common.{◌≡◌, ◌+◌, ◌≤◌, drop, length, map}
use Rattle.elf_tables.specs.ImageModel.{name_model}
use Rattle.elf_layout_plan.specs.Staying.{unmarked_names}
use Rattle.elf_layout_plan.proofs.records.count_unmarked.Given as goal

-- the names so far and those that stay of what is left
abbrev pub invariant-loop-name : goal.invariant-loop-name
invariant-loop-name l =
    (l.count ≤ l.name-index)
    × (l.count + length (unmarked_names l.marks (map name_model (drop l.name-index l.names))) ≡ length (unmarked_names l.marks (map name_model l.names)))
