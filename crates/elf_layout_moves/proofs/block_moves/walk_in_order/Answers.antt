use Rattle.std.proofs.Common.{◌∙◌, Bool, List, ap, subst, sym}
use Rattle.std.proofs.lemmas.Result.{err_from_is_err_and}
use Rattle.elf_layout_plan.specs.declared.block.Block.{Block as Ranged}
use Rattle.elf_layout_plan.specs.MovedBlocks.{IsOrdered}
use Rattle.elf_layout_plan.specs.Blocks.{Block}
use Rattle.elf_layout_plan.specs.Marks.{marked_of}
use Rattle.elf_layout_moves.specs.BlockSteps.{AreMovers, AreRanges}
use Rattle.elf_layout_moves.proofs.MoverLaws.{marked_move}
use Rattle.elf_layout_moves.proofs.RangeLaws.{range_marks, ranges_ordered, stuck_fault}
use Rattle.elf_layout_moves.proofs.block_moves.walk_in_order.Goals as goal

pub marks-requires : goal.marks-requires
marks-requires c =
    subst (λ (ranges : List Ranged). IsOrdered ranges) (sym c.deref.ensures.value)
    (ranges_ordered c.args.sorted.now c.in_ok-ranges.ranges.items c.requires.ordered c.requires.clear c.in_ok-ranges.ensures)

pub returns-in_err-marks-clause-fault : goal.returns-in_err-marks-clause-fault
returns-in_err-marks-clause-fault c =
    let p = err_from_is_err_and c.from_residual-in_err-marks.result c.from_residual-in_err-marks.ensures.1 in
    let are = subst (λ (ranges : List Ranged). AreRanges c.args.sorted.now ranges) (sym c.deref.ensures.value) c.in_ok-ranges.ensures in
    rw (p.1, p.2) (stuck_fault c.args.sorted.now c.deref.result.now c.requires.ordered c.requires.clear are c.in_err-marks.field-0.0 c.in_err-marks.ensures.fault)

pub returns-clause-movers : goal.returns-clause-movers
returns-clause-movers c =
    let are = subst (λ (ranges : List Ranged). AreRanges c.args.sorted.now ranges) (sym c.deref.ensures.value) c.in_ok-ranges.ensures in
    let found = c.in_ok-found.ensures ∙ ap (λ (marks : List Bool). marked_of c.args.sorted.now marks) c.deref-2.ensures.value in
    subst (λ (movers : List Block). AreMovers c.args.sorted.now movers) (sym found)
    (marked_move c.args.sorted.now c.deref.result.now c.in_ok-marks.marks.items c.requires.ordered c.requires.clear are
    c.in_ok-marks.ensures.many c.in_ok-marks.ensures.free c.in_ok-marks.ensures.apart c.in_ok-marks.ensures.cause)

pub returns-clause-chosen : goal.returns-clause-chosen
returns-clause-chosen c =
    let are = subst (λ (ranges : List Ranged). AreRanges c.args.sorted.now ranges) (sym c.deref.ensures.value) c.in_ok-ranges.ensures in
    let marked : List Bool → List Block = λ marks. marked_of c.args.sorted.now marks in
    c.in_ok-found.ensures ∙ ap marked c.deref-2.ensures.value
    ∙ ap marked (c.in_ok-marks.ensures.chosen ∙ range_marks c.args.sorted.now c.deref.result.now c.requires.ordered c.requires.clear are)
