-- The list doesn't lead to them, or the symbols are those that were read.
use Rattle.std.proofs.Common.{sym, ◌∙◌}
use Rattle.elf_layout_plan.proofs.NeedSteps.{stays_apart, stays_same}
use Rattle.elf_layout_plan.proofs.staying.do_all_stay.Goals as goal

pub returns-then-not-leads_to_needs-clause-stay : goal.returns-then-not-leads_to_needs-clause-stay
returns-then-not-leads_to_needs-clause-stay c _ read is =
    stays_apart read c.args.image.now (sym c.leads_to_needs.ensures ∙ c.if-not-leads_to_needs.true)

pub returns-else-not-leads_to_needs-clause-stay : goal.returns-else-not-leads_to_needs-clause-stay
returns-else-not-leads_to_needs-clause-stay c kept read is =
    stays_same read c.args.image.now ((c.keeps_dynamic_symbols.ensures read is).0 kept).symbols
