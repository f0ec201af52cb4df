use Rattle.std.proofs.Common.{◌≡◌, ◌+◌, ◌≤◌, drop, length, map}
use Rattle.elf_tables.specs.ImageModel.{needs_model}
use Rattle.elf_layout_plan.specs.Staying.{unmarked_needs}
use Rattle.elf_layout_plan.proofs.records.count_needs.Given as goal

-- the needed libraries so far and those that stay of what is left
abbrev pub invariant-loop-need : goal.invariant-loop-need
invariant-loop-need l =
    (l.count ≤ l.need-index)
    × (l.count + length (unmarked_needs l.marks (map needs_model (drop l.need-index l.needs))) ≡ length (unmarked_needs l.marks (map needs_model l.needs)))
