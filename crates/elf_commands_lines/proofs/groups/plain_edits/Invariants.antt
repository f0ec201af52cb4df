use Rattle.std.proofs.Common.{◌≡◌, map}
use Rattle.elf_commands_lines.specs.Groups.{edits_model, group_model, plain_of}
use Rattle.elf_commands_lines.proofs.groups.plain_edits.Given as goal

abbrev pub invariant-loop-edit : goal.invariant-loop-edit
invariant-loop-edit l = edits_model l.plain.items ≡ plain_of (map group_model l.yielded)
