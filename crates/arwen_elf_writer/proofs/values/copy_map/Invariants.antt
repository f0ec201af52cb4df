use Rattle.std.proofs.Common.{◌≡◌, ◌++◌}
use Rattle.elf_edits.specs.EditModel.{pairs_model}
use Rattle.arwen_elf_writer.proofs.values.copy_map.Given as goal

-- the pairs so far, with those that are left, are all
abbrev pub invariant-loop-key : goal.invariant-loop-key
invariant-loop-key l = pairs_model l.copies.items ++ pairs_model l.key-iterator ≡ pairs_model l.texts.entries
