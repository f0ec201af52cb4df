use Rattle.std.proofs.Common.{◌≡◌, ◌++◌, map, take}
use Rattle.elf_image.specs.ImageModel.{entry_model}
use Rattle.elf_edits.specs.Entries.{directories_removed, with_run_paths_shrunk}
use Rattle.elf_edits_shrink.specs.ShrinkModel.{search_model, removal_model}
use Rattle.elf_edits_shrink.proofs.lists.shrink_entries.Given as goal

-- the entries so far, and the directories that went
abbrev pub invariant-loop-entry : goal.invariant-loop-entry
invariant-loop-entry l = record {
  entries : map entry_model l.made.items ≡ with_run_paths_shrunk (search_model l.s) (map entry_model (take l.entry-index l.entries));
  gone : map removal_model l.removed.items ≡ map removal_model l.initial.removed.items ++ directories_removed (search_model l.s) (map entry_model (take l.entry-index l.entries));
}
