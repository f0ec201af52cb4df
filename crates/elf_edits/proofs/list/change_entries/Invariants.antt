use Rattle.std.proofs.Common.{◌≡◌, map, take}
use Rattle.elf_image.specs.ImageModel.{entry_model}
use Rattle.elf_edits.specs.Changes.{change_model, test_model}
use Rattle.elf_edits.specs.Entries.{changed_where}
use Rattle.elf_edits.proofs.list.change_entries.Given as goal

-- the entries so far
abbrev pub invariant-loop-entry : goal.invariant-loop-entry
invariant-loop-entry l = map entry_model l.made.items ≡ changed_where (test_model l.test) (change_model l.change) (map entry_model (take l.entry-index l.entries))
