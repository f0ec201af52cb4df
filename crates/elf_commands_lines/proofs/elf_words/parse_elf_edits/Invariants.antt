use Rattle.std.proofs.Common.{◌≡◌, length, map}
use Rattle.command_words.proofs.ForCallers.{IsReadTo}
use Rattle.elf_commands_lines.specs.Groups.{group_model}
use Rattle.elf_commands_lines.specs.ElfWords.{elf_group_edit}
use Rattle.elf_commands_lines.proofs.elf_words.parse_elf_edits.Given as goal

abbrev pub invariant-loop-group : goal.invariant-loop-group
invariant-loop-group l = record {
  counted : length l.edits.items ≡ length l.yielded;
  read : IsReadTo elf_group_edit l.words (length l.edits.items) (map group_model l.edits.items);
}
