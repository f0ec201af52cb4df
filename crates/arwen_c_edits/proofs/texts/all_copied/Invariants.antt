use Rattle.std.proofs.Common.{◌≡◌, take}
use Rattle.arwen_c_edits.specs.Lent.{texts_model}
use Rattle.elf_edits.specs.EditModel.{texts_model as bytes_model}
use Rattle.arwen_c_edits.proofs.texts.all_copied.Given as goal

abbrev pub invariant-loop-text : goal.invariant-loop-text
invariant-loop-text l = bytes_model l.copies.items ≡ texts_model (take l.text-index l.texts)
