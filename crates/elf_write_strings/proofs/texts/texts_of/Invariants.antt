use Rattle.std.proofs.Common.{◌≡◌, ◌++◌, drop, map}
use Rattle.elf_format.specs.Answers.{borrowed}
use Rattle.elf_image.specs.ImageModel.{entry_model}
use Rattle.elf_layout_sizes.specs.Staying.{staying_entries}
use Rattle.elf_layout_plan.specs.Texts.{texts_of_entries}
use Rattle.elf_write_strings.proofs.texts.texts_of.Given as goal

-- the texts so far, with those of the entries that are left, are all of them
abbrev pub invariant-loop-entry : goal.invariant-loop-entry
invariant-loop-entry l =
    map borrowed l.texts.items ++ texts_of_entries (staying_entries l.staying.are_gone (map entry_model (drop l.entry-index l.entries)))
    ≡ texts_of_entries (staying_entries l.staying.are_gone (map entry_model l.entries))
