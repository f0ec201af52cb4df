use Rattle.std.proofs.Common.{◌≡◌, take, map}
use Rattle.elf_image.specs.ImageModel.{entry_model}
use Rattle.elf_image.proofs.copies.copied_entries.Given as goal

abbrev pub invariant-loop-entry : goal.invariant-loop-entry
invariant-loop-entry l = map entry_model l.made.items ≡ map entry_model (take l.entry-index l.entries)
