-- No mark.
use Rattle.std.proofs.Common.{Bool, List, false, subst, sym}
use Rattle.elf_layout_plan.specs.WrittenNeeds.{AreWritten}
use Rattle.elf_layout_plan.proofs.NeedSteps.{all_written}
use Rattle.elf_layout_plan.proofs.staying.StayingNeeds.all.Goals as goal

pub returns : goal.returns
returns c read =
    subst (λ (marks : List Bool). AreWritten read read (record { marks = marks; are_gone = false })) (sym c.new.ensures.items) (all_written read)
