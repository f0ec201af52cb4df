use Rattle.std.proofs.Common.{◌+◌, ◌<◌, ℕ, List, arith, get_or, length, subst, sym}
use Rattle.elf_layout_segments.specs.Leasts.{IsLeast, numbers_at}
use Rattle.elf_layout_segments.proofs.LeastSteps.{least_both, least_last, row_at}
use Rattle.elf_layout_segments.proofs.leasts.lesser_at.Goals as goal

pub returns-then-width-row : goal.returns-then-width-row
returns-then-width-row c = λ numbers are.
    let row : List ℕ = c.args.row.now in
    let place : ℕ = c.args.place in
    let width : ℕ = c.args.width in
    let within : place + width < length row = omega (arith, c.requires, c.if-width-row.true) in
    subst (λ (n : ℕ). IsLeast (numbers_at numbers place (width + width)) n) (sym c.min.ensures)
    (least_both numbers place width (get_or row place 0) (get_or row (place + width) 0) (row_at numbers row width place 0 are c.requires) (row_at numbers row width (place + width) 0 are within))

pub returns-else-width-row : goal.returns-else-width-row
returns-else-width-row c = λ numbers are.
    least_last numbers c.args.place c.args.width (get_or c.args.row.now c.args.place 0) (omega (arith, are.many, c.if-width-row.false)) (row_at numbers c.args.row.now c.args.width c.args.place 0 are c.requires)
