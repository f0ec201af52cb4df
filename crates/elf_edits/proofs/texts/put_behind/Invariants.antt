use Rattle.std.proofs.Common.{◌≡◌, ◌++◌, drop}
use Rattle.elf_edits.specs.TextModel.{texts_model}
use Rattle.elf_edits.specs.Texts.{behind_colons}
use Rattle.elf_edits.proofs.texts.put_behind.Given as goal

-- what is made so far, with the texts that are left, makes the whole
abbrev pub invariant-loop-text : goal.invariant-loop-text
invariant-loop-text l = l.made.items ++ behind_colons (texts_model (drop l.text-index l.texts)) ≡ l.initial.made.items ++ behind_colons (texts_model l.texts)
