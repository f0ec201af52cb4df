use Rattle.std.proofs.Common.{◌≡◌, drop}
use Rattle.elf_edits.specs.TextModel.{texts_model}
use Rattle.elf_edits.specs.Entries.{with_each_added}
use Rattle.elf_edits.proofs.texts.with_each_directory.Given as goal

-- what is made so far, with the texts that are left, makes the whole
abbrev pub invariant-loop-added : goal.invariant-loop-added
invariant-loop-added l = with_each_added (texts_model (drop l.added-index l.directories)) l.made.items ≡ with_each_added (texts_model l.directories) l.fn.text
