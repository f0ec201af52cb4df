use Rattle.std.proofs.Common.{◌≡◌, map}
use Rattle.elf_commands.specs.Groups.{group_model}
use Rattle.arwen_c_edits.specs.ElfEdits.{read_model}
use Rattle.arwen_c.specs.Made.{group_of}
use Rattle.arwen_c.proofs.groups.groups_of.Given as goal

abbrev pub invariant-loop-edit : goal.invariant-loop-edit
invariant-loop-edit l = map group_model l.groups.items ≡ map group_of (map read_model l.yielded)
