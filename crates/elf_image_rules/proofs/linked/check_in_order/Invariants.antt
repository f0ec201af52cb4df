use Rattle.std.specs.List.{All}
use Rattle.elf_image_rules.specs.LinkSteps.{IsChecked, IsKnown}
use Rattle.elf_image_rules.proofs.linked.check_in_order.Given as goal

-- what was checked so far is so, and so is what is known
abbrev pub invariant-loop-table : goal.invariant-loop-table
invariant-loop-table l = record { checked : All (IsChecked l.form l.file) l.checked.items; known : IsKnown l.form l.file l.known }
