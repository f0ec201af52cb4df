use Rattle.std.proofs.Common.{◌≡◌, drop, map}
use Rattle.elf_image.specs.ImageModel.{entry_model}
use Rattle.arwen_elf_writer.specs.Reads.{texts_tagged}
use Rattle.arwen_elf_writer.proofs.writer.first_text.Given as goal

-- no entry so far has such a text
abbrev pub invariant-loop-entry : goal.invariant-loop-entry
invariant-loop-entry l = texts_tagged l.tags (map entry_model (drop l.entry-index l.entries)) ≡ texts_tagged l.tags (map entry_model l.entries)
