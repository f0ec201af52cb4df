use Rattle.std.proofs.Common.{◌≡◌, filter, map, not, take}
use Rattle.elf_image.specs.ImageModel.{entry_model}
use Rattle.elf_edits.specs.Changes.{test_model}
use Rattle.elf_edits.proofs.list.entries_without.Given as goal

-- the entries so far that stay
abbrev pub invariant-loop-entry : goal.invariant-loop-entry
invariant-loop-entry l = map entry_model l.made.items ≡ filter (λ e. not (test_model l.test e)) (map entry_model (take l.entry-index l.entries))
