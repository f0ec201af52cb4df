use Rattle.std.proofs.Common.{◌≡◌, ◌++◌}
use Rattle.std.specs.HashSet.{keys}
use Rattle.elf_edits.specs.EditModel.{texts_model}
use Rattle.arwen_elf_writer.proofs.values.copy_set.Given as goal

-- the texts so far, with those that are left, are all
abbrev pub invariant-loop-text : goal.invariant-loop-text
invariant-loop-text l = texts_model l.copies.items ++ texts_model l.text-iterator ≡ texts_model (keys l.texts)
