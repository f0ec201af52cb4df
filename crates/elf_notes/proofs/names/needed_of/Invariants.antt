use Rattle.std.proofs.Common.{◌≡◌, ◌++◌, drop, map}
use Rattle.elf_edits.specs.Entries.{needed_names}
use Rattle.elf_image.specs.ImageModel.{entry_model}
use Rattle.elf_notes.proofs.names.needed_of.Given as goal

-- the names so far, with those of the entries that are left
abbrev pub invariant-loop-entry : goal.invariant-loop-entry
invariant-loop-entry l = map (λ n. n.now) l.names.items ++ needed_names (map entry_model (drop l.entry-index l.entries)) ≡ needed_names (map entry_model l.entries)
