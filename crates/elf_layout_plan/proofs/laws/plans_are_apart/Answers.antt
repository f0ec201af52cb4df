use Rattle.elf_layout_plan.proofs.ApartPlans.{plans_are_apart}
use Rattle.elf_layout_plan.proofs.laws.plans_are_apart.Goals as goal

pub returns : goal.returns
returns c = plans_are_apart
