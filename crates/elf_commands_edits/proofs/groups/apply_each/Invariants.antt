use Rattle.std.proofs.Common.{drop, map}
use Rattle.elf_commands_edits.specs.Groups.{group_model}
use Rattle.elf_commands_edits.proofs.Turns.{StandsAt}
use Rattle.elf_commands_edits.proofs.groups.apply_each.Given as goal

abbrev pub invariant-loop-index : goal.invariant-loop-index
invariant-loop-index l =
    StandsAt (map group_model l.edits) (map group_model (drop l.index l.edits)) l.fn.elf.inner l.elf.inner l.index
