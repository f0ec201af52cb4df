use Rattle.std.proofs.Common.{◌≡◌, drop, map}
use Rattle.elf_commands_lines.specs.Groups.{group_model, has_symbols}
use Rattle.elf_commands_lines.proofs.groups.has_symbols.Given as goal

-- none so far is one
abbrev pub invariant-loop-edit : goal.invariant-loop-edit
invariant-loop-edit l = has_symbols (map group_model (drop l.edit-index l.edits)) ≡ has_symbols (map group_model l.edits)
