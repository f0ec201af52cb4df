use Rattle.std.proofs.Common.{◌≡◌, map}
use Rattle.elf_commands.specs.Groups.{group_model, plain}
use Rattle.arwen_cli_patchelf.specs.OptionEdits.{planned_model}
use Rattle.arwen_cli_patchelf.proofs.plans.edits_of.Given as goal

-- the edits so far
abbrev pub invariant-loop-edit : goal.invariant-loop-edit
invariant-loop-edit l = map group_model l.edits.items ≡ map (λ one. plain one.edit) (map planned_model l.yielded)
