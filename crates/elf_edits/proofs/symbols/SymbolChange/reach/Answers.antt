-- One symbol after another.
use Rattle.std.proofs.Common.{◌∙◌, arith, List, refl, sym}
use Rattle.elf_image.specs.Views.{NamedSymbol}
use Rattle.elf_image_symbols.specs.Loan.{symbols_now}
use Rattle.elf_edits.proofs.SymbolSteps.{left_more, left_whole}
use Rattle.elf_edits.proofs.symbols.SymbolChange.reach.Goals as goal
use Rattle.elf_edits.proofs.symbols.SymbolChange.reach.Goals.{then-is_about, else-is_about}

pub loop-i-init : goal.loop-i-init
loop-i-init c = (omega arith, omega arith, c.requires.within, omega arith, refl)

pub loop-i-preserved : goal.loop-i-preserved
loop-i-preserved c =
    let ys : List NamedSymbol = symbols_now c.args.symbols.now in
    let (after, so_far, within, few, same) = c.loop-i.invariant in
    elim c.if-is_about.branch [
      | then-is_about w ↦
          rw (w.count-is, w.end-is)
          (omega (arith, after, so_far), omega arith, omega (arith, c.loop-i-test.true, c.len-i-end.ensures), omega (arith, few), refl)
      | else-is_about w ↦
          rw (w.count-is, w.end-is) (
            after,
            omega (arith, so_far),
            omega (arith, c.loop-i-test.true, c.len-i-end.ensures),
            omega (arith, few),
            same ∙ sym (left_more c.args.self.now ys c.loop-i.i c.is_about.result (omega (arith, c.requires.behind, after, so_far))
                (omega (arith, c.loop-i-test.true, c.len-i-end.ensures)) c.is_about.ensures w.if-is_about.false),
          )
    ]

pub returns-then-count-gt-FEW-clause-ends : goal.returns-then-count-gt-FEW-clause-ends
returns-then-count-gt-FEW-clause-ends c =
    record {
      within = omega (arith, c.len-end.ensures);
      left = left_whole c.args.self.now (symbols_now c.args.symbols.now) c.len-end.result (omega (arith, c.len-end.ensures));
    }

pub returns-clause-ends : goal.returns-clause-ends
returns-clause-ends c =
    let (after, so_far, within, few, same) = c.loop-i.invariant in
    record {
      within = omega (arith, so_far, within);
      left = same ∙ left_whole c.args.self.now (symbols_now c.args.symbols.now) c.loop-i.i (omega (arith, c.loop-i-test.false, c.len-i-end.ensures));
    }
