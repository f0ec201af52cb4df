-- One symbol after another.
use Rattle.std.proofs.Common.{◌≡◌, ℕ, List, Some, ap, length, sym, ◌∙◌, arith}
use Rattle.std.specs.Prelude.{◌&&◌, ◌||◌, ◌==◌, not}
use Rattle.std.specs.List.{slice_get, zip}
use Rattle.elf_format.specs.Image.{Image}
use Rattle.elf_format.specs.Options.{is_one_of}
use Rattle.elf_format.specs.Views.{NamedSymbol}
use Rattle.elf_image.specs.Loan.{symbols_now}
use Rattle.elf_image_uses.specs.Steps.{goes_with, numbers_with}
use Rattle.elf_image_uses.proofs.AlongSteps.{keeps_all, keeps_none, keeps_one, numbered_long, numbered_there, told_symbol}
use Rattle.elf_image_uses.proofs.along.symbols_with.Goals as goal
use Rattle.elf_image_uses.proofs.along.symbols_with.Goals.{then-goes_along+in_ok-push, else-goes_along}

pub loop-i-preserved : goal.loop-i-preserved
loop-i-preserved c =
    let image : Image = c.args.image.now in
    let gone : List ℕ = c.args.gone.now in
    let (y, at, same) = told_symbol (symbols_now c.symbols-symbols.result) c.loop-i.i 0 c.numbers-numbers.result c.numbers-numbers.ensures in
    let seen : slice_get image.symbols c.loop-i.i ≡ Some y = sym (ap (λ (ys : List NamedSymbol). slice_get ys c.loop-i.i) c.symbols-symbols.ensures.symbols) ∙ at in
    let there : slice_get (zip image.symbol_numbers image.symbols) c.loop-i.i ≡ Some (c.read_symbol-number.result, y) =
    numbered_there image c.source-source.ensures.edited c.loop-i.i y seen ∙ ap (λ n. Some (n, y)) (sym c.read_symbol-number.ensures) in
    let is = c.goes_along.ensures ∙ ap (λ n. c.args.table || not (c.read_symbol-number.result == 0) && is_one_of gone n) same in
    elim c.if-goes_along.branch [
      | then-goes_along+in_ok-push w ↦
          keeps_one (λ x. x.0) (λ x. goes_with c.args.table gone x.0 x.1) c.loop-i.made.items c.if-goes_along.made.items (numbers_with c.args.table gone image)
          (zip image.symbol_numbers image.symbols) c.loop-i.i (c.read_symbol-number.result, y) c.goes_along.result there is w.if-goes_along.true
          (ap (λ v. v.items) w.made-is ∙ w.in_ok-push.ensures.items) c.loop-i.invariant
      | else-goes_along w ↦
          keeps_none (λ x. x.0) (λ x. goes_with c.args.table gone x.0 x.1) c.loop-i.made.items c.if-goes_along.made.items (numbers_with c.args.table gone image)
          (zip image.symbol_numbers image.symbols) c.loop-i.i (c.read_symbol-number.result, y) c.goes_along.result there is w.if-goes_along.false
          (ap (λ v. v.items) w.made-is) c.loop-i.invariant
    ]

pub returns : goal.returns
returns c =
    let image : Image = c.args.image.now in
    let long : length (zip image.symbol_numbers image.symbols) ≡ length image.symbols = numbered_long image c.source-source.ensures.edited in
    let seen : length (symbols_now c.symbols-symbols.result) ≡ length image.symbols = ap length c.symbols-symbols.ensures.symbols in
    keeps_all (λ x. x.0) (λ x. goes_with c.args.table c.args.gone.now x.0 x.1) c.loop-i.made.items (numbers_with c.args.table c.args.gone.now image)
    (zip image.symbol_numbers image.symbols) c.loop-i.i (omega arith) c.loop-i.invariant
