use Rattle.std.proofs.Common.{◌≡◌, take}
use Rattle.elf_edits.specs.EditModel.{texts_model}
use Rattle.arwen_elf_writer.proofs.values.copy_texts.Given as goal

-- the texts so far
abbrev pub invariant-loop-text : goal.invariant-loop-text
invariant-loop-text l = texts_model l.copies.items ≡ texts_model (take l.text-index l.texts)
