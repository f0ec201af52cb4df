use Rattle.std.proofs.Common.{◌≡◌, drop, map}
use Rattle.elf_tables.specs.ImageModel.{needs_model}
use Rattle.elf_layout_plan.specs.Staying.{unmarked_needs}
use Rattle.elf_layout_plan.proofs.records.do_needs_stay.Given as goal

-- no record so far stays
abbrev pub invariant-loop-need : goal.invariant-loop-need
invariant-loop-need l = unmarked_needs l.marks (map needs_model (drop l.need-index l.needs)) ≡ unmarked_needs l.marks (map needs_model l.needs)
