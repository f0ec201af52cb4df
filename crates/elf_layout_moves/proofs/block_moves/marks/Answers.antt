use Rattle.std.proofs.Common.{◌≡◌, ◌++◌, ◌∙◌, List, Bool, arith, drop, length, subst, sym, take}
use Rattle.std.proofs.lemmas.Grind.{common_steps}
use Rattle.elf_layout_plan.specs.MovedBlocks.{MoveForCause}
use Rattle.elf_layout_moves.proofs.block_moves.marks.Goals as goal

pub returns-clause-cause : goal.returns-clause-cause
returns-clause-cause c =
    let written : List Bool = c.walk_on.new.marks in
    let same : take c.in_ok-marks.marks.len (written ++ drop (length written) c.in_ok-marks.marks.items) ≡ written = grind (arith, common_steps) in
    subst (λ (marks : List Bool). MoveForCause c.args.ranges.now marks) (sym same) c.in_ok-walk_on.ensures.cause

pub returns-clause-chosen : goal.returns-clause-chosen
returns-clause-chosen c =
    let written : List Bool = c.walk_on.new.marks in
    let same : take c.in_ok-marks.marks.len (written ++ drop (length written) c.in_ok-marks.marks.items) ≡ written = grind (arith, common_steps) in
    same ∙ c.in_ok-walk_on.ensures.chosen
