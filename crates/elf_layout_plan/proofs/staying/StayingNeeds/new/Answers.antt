-- What is marked is what goes.
use Rattle.std.proofs.Common.{Bool, List, ap, ◌∙◌}
use Rattle.std.specs.Prelude.{◌&&◌, not}
use Rattle.elf_layout_plan.specs.Needs.{is_empty}
use Rattle.elf_layout_plan.specs.Staying.{unmarked_needs}
use Rattle.elf_layout_plan.proofs.NeedSteps.{are_written}
use Rattle.elf_layout_plan.proofs.staying.StayingNeeds.new.Goals as goal

pub returns : goal.returns
returns c =
    are_written c.args.read.now c.args.image.now c.in_ok-marks.marks.items c.is_without_needs-are_gone.result c.in_ok-marks.ensures
    (c.is_without_needs-are_gone.ensures
    ∙ ap (λ (m : List Bool). not (is_empty c.args.image.now.needs) && is_empty (unmarked_needs m c.args.image.now.needs)) c.deref.ensures.value)
