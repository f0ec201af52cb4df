use Rattle.std.proofs.Common.{◌≡◌, ◌++◌, drop, map}
use Rattle.elf_image.specs.ImageModel.{needs_model}
use Rattle.elf_layout_plan.specs.Texts.{texts_of_needs}
use Rattle.elf_layout_plan.specs.Staying.{unmarked_needs}
use Rattle.elf_layout_sizes.proofs.texts.Texts.push_needs.Given as goal

-- what is there so far, with the texts of the records that are left, is all of it
abbrev pub invariant-loop-need : goal.invariant-loop-need
invariant-loop-need l =
    l.self ++ texts_of_needs (unmarked_needs l.staying.marks (map needs_model (drop l.need-index l.needs))) ≡ l.initial.self ++ texts_of_needs (unmarked_needs l.staying.marks (map needs_model l.needs))
