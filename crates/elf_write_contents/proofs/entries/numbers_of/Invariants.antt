use Rattle.std.proofs.Common.{◌≡◌, ◌++◌, drop, map}
use Rattle.elf_image.specs.ImageModel.{entry_model}
use Rattle.elf_layout_plan.specs.Staying.{staying_entries}
use Rattle.elf_layout_plan.specs.Plan.{resized}
use Rattle.elf_write_spec.specs.Contents.{table_value}
use Rattle.elf_write_contents.specs.EntrySteps.{numbers_with}
use Rattle.elf_write_contents.proofs.entries.numbers_of.Given as goal

-- the numbers so far, with those of the entries that are left, are all of them
abbrev pub invariant-loop-entry : goal.invariant-loop-entry
invariant-loop-entry l =
    l.raw.items
    ++ numbers_with (λ tag. table_value (resized l.image) l.plan tag) l.left
    (staying_entries l.staying.are_gone (map entry_model (drop l.entry-index l.entries)))
    ≡ numbers_with (λ tag. table_value (resized l.image) l.plan tag) l.places
    (staying_entries l.staying.are_gone (map entry_model l.entries))
