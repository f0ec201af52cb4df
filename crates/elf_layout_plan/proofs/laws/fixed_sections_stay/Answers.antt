use Rattle.elf_layout_plan.proofs.ApartFixed.{fixed_sections_stay}
use Rattle.elf_layout_plan.proofs.laws.fixed_sections_stay.Goals as goal

pub returns : goal.returns
returns c = fixed_sections_stay
