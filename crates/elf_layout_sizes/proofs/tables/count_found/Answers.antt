-- One symbol more is looked at.
use Rattle.std.proofs.Common.{drop, ◌∙◌, arith}
use Rattle.std.specs.Prelude.{count_by, slice_get}
use Rattle.elf_image_symbols.specs.Loan.{symbols_now}
use Rattle.elf_layout_plan.specs.Sizes.{is_found}
use Rattle.elf_layout_sizes.proofs.SymbolSteps.{counted_next, counted_on, with_part}
use Rattle.elf_layout_sizes.proofs.tables.count_found.Goals as goal
use Rattle.elf_layout_sizes.proofs.tables.count_found.Goals.{then-is_found, else-is_found}

pub loop-i-preserved : goal.loop-i-preserved
loop-i-preserved c =
    let (y, at, told) = with_part is_found (slice_get (symbols_now c.args.symbols) c.loop-i.i) c.is_found.result c.is_found.ensures in
    elim c.if-is_found.branch [
      | then-is_found w ↦ (
        omega (arith, w.count-is, c.loop-i.invariant.0),
        counted_next is_found (symbols_now c.args.symbols) c.loop-i.i y c.loop-i.count c.if-is_found.count (count_by is_found (drop 1 (symbols_now c.args.symbols)))
            at (told ∙ w.if-is_found.true) w.count-is c.loop-i.invariant.1,
      )
      | else-is_found w ↦ (
        omega (arith, w.count-is, c.loop-i.invariant.0),
        counted_on is_found (symbols_now c.args.symbols) c.loop-i.i y c.loop-i.count c.if-is_found.count (count_by is_found (drop 1 (symbols_now c.args.symbols)))
            at (told ∙ w.if-is_found.false) w.count-is c.loop-i.invariant.1,
      )
    ]
