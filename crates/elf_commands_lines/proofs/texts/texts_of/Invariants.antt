use Rattle.std.proofs.Common.{◌≡◌, map, take, string_bytes}
use Rattle.elf_edits.specs.EditModel.{texts_model}
use Rattle.elf_commands_lines.proofs.texts.texts_of.Given as goal

abbrev pub invariant-loop-word : goal.invariant-loop-word
invariant-loop-word l = texts_model l.texts.items ≡ map string_bytes (take l.word-index l.words)
