use Rattle.std.proofs.Common.{◌≡◌, ◌++◌, map, take}
use Rattle.elf_image.specs.ImageModel.{entry_model}
use Rattle.elf_edits.proofs.list.put_copies.Given as goal

-- the entries so far are put behind those that were there
abbrev pub invariant-loop-entry : goal.invariant-loop-entry
invariant-loop-entry l = map entry_model l.made.items ≡ map entry_model l.initial.made.items ++ map entry_model (take l.entry-index l.entries)
