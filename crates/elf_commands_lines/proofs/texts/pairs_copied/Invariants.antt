use Rattle.std.proofs.Common.{◌≡◌, map, take}
use Rattle.elf_edits.specs.EditModel.{pairs_model}
use Rattle.command_words.specs.WordValues.{text_pair_model}
use Rattle.elf_commands_lines.proofs.texts.pairs_copied.Given as goal

abbrev pub invariant-loop-pair : goal.invariant-loop-pair
invariant-loop-pair l = pairs_model l.copies.items ≡ map text_pair_model (take l.pair-index l.pairs)
