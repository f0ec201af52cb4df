use Rattle.std.proofs.Common.{◌≡◌, drop, map}
use Rattle.std.specs.List.{list_any}
use Rattle.elf_image.specs.ImageModel.{entry_model}
use Rattle.elf_edits.specs.Changes.{test_model}
use Rattle.elf_edits.proofs.changes.EntryTest.holds_of_any.Given as goal

-- the edit is about no entry so far
abbrev pub invariant-loop-entry : goal.invariant-loop-entry
invariant-loop-entry l = list_any (test_model l.self) (map entry_model l.entries) ≡ list_any (test_model l.self) (map entry_model (drop l.entry-index l.entries))
