use Rattle.elf_layout_plan.proofs.ApartNoteLaw.{plans_show_notes}
use Rattle.elf_layout_plan.proofs.laws.plans_show_notes.Goals as goal

pub returns : goal.returns
returns c = plans_show_notes
