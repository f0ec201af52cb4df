-- The law of plans in the file.
use Rattle.elf_layout_plan.proofs.PlacedPlans.{plans_are_placed}
use Rattle.elf_layout_plan.proofs.laws.plans_are_placed.Goals as goal

pub returns : goal.returns
returns c = plans_are_placed
