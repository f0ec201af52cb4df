use Rattle.std.proofs.Common.{◌≡◌, ◌++◌, drop, map}
use Rattle.elf_image.specs.ImageModel.{entry_model}
use Rattle.elf_layout_plan.specs.Texts.{texts_of_entries}
use Rattle.elf_layout_plan.specs.Staying.{staying_entries}
use Rattle.elf_layout_sizes.proofs.texts.Texts.push_entries.Given as goal

-- what is there so far, with the texts of the entries that are left, is all of it
abbrev pub invariant-loop-entry : goal.invariant-loop-entry
invariant-loop-entry l =
    l.self ++ texts_of_entries (staying_entries l.staying.are_gone (map entry_model (drop l.entry-index l.entries)))
    ≡ l.initial.self ++ texts_of_entries (staying_entries l.staying.are_gone (map entry_model l.entries))
