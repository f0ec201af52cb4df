use Rattle.elf_tables.specs.StringSteps.{AreOrdered}
use Rattle.elf_tables.proofs.laid.in_order.Given as goal

-- the places so far are put where the numbers of their texts say
abbrev pub invariant-loop-i : goal.invariant-loop-i
invariant-loop-i l = AreOrdered l.texts l.places l.order.items l.i
