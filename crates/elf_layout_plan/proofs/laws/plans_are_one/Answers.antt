use Rattle.elf_layout_plan.proofs.OnePlan.{plans_are_one}
use Rattle.elf_layout_plan.proofs.laws.plans_are_one.Goals as goal

pub returns : goal.returns
returns c = plans_are_one
