-- One symbol after another.
use Rattle.std.proofs.Common.{◌∙◌, ap, arith, drop, List, refl, sym}
use Rattle.std.specs.List.{list_any}
use Rattle.std.proofs.lemmas.List.{drop_all}
use Rattle.elf_image.specs.Views.{NamedSymbol}
use Rattle.elf_image_symbols.specs.Loan.{symbols_now}
use Rattle.elf_edits.specs.SymbolChanges.{is_changed}
use Rattle.elf_edits.proofs.SymbolSteps.{any_ends, any_goes, left_first, left_more}
use Rattle.elf_edits.proofs.symbols.SymbolChange.find_first.Goals as goal

pub loop-i-init : goal.loop-i-init
loop-i-init c = (omega arith, refl, left_first c.args.self.now (symbols_now c.args.symbols.now) 1 refl)

pub returns-then-is_about : goal.returns-then-is_about
returns-then-is_about c =
    let ys : List NamedSymbol = symbols_now c.args.symbols.now in
    record {
      about = sym (any_ends (is_changed c.args.self.now) ys c.loop-i.i c.is_about.result (list_any (is_changed c.args.self.now) (drop 1 ys))
          c.is_about.ensures c.if-is_about.true c.loop-i.invariant.1);
      behind = c.loop-i.invariant.0;
      within = omega (arith, c.loop-i-test.true, c.len-i-end.ensures);
      before = c.loop-i.invariant.2;
    }

pub loop-i-preserved : goal.loop-i-preserved
loop-i-preserved c =
    let ys : List NamedSymbol = symbols_now c.args.symbols.now in (
      omega (arith, c.loop-i.invariant.0),
      any_goes (is_changed c.args.self.now) ys c.loop-i.i c.is_about.result (list_any (is_changed c.args.self.now) (drop 1 ys))
          c.is_about.ensures c.if-is_about.false c.loop-i.invariant.1,
      left_more c.args.self.now ys c.loop-i.i c.is_about.result c.loop-i.invariant.0 (omega (arith, c.loop-i-test.true, c.len-i-end.ensures))
          c.is_about.ensures c.if-is_about.false
          ∙ c.loop-i.invariant.2,
    )

pub returns : goal.returns
returns c =
    let ys : List NamedSymbol = symbols_now c.args.symbols.now in
    sym c.loop-i.invariant.1 ∙ ap (list_any (is_changed c.args.self.now)) (drop_all c.loop-i.i ys (omega (arith, c.loop-i-test.false, c.len-i-end.ensures)))
