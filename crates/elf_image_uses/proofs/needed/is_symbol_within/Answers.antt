-- One symbol after another.
use Rattle.std.proofs.Common.{ap, ◌∙◌, arith}
use Rattle.std.specs.List.{list_any}
use Rattle.elf_format.specs.Options.{is_one_of}
use Rattle.elf_image.specs.Loan.{symbols_now}
use Rattle.elf_image_uses.proofs.AlongSteps.{told_symbol}
use Rattle.elf_image_uses.proofs.ListSteps.{any_done, any_ends, any_goes}
use Rattle.elf_image_uses.proofs.needed.is_symbol_within.Goals as goal

pub returns-then-contains : goal.returns-then-contains
returns-then-contains c =
    let (y, at, same) = told_symbol (symbols_now c.args.symbols) c.loop-i.i 0 c.numbers-numbers.result c.numbers-numbers.ensures in
    any_ends (λ x. is_one_of c.args.gone.now x.st_shndx) (symbols_now c.args.symbols) c.loop-i.i y c.contains.result (list_any (λ x. is_one_of c.args.gone.now x.st_shndx) (symbols_now c.args.symbols)) at
    (c.contains.ensures ∙ ap (is_one_of c.args.gone.now) same) c.if-contains.true c.loop-i.invariant

pub loop-i-preserved : goal.loop-i-preserved
loop-i-preserved c =
    let (y, at, same) = told_symbol (symbols_now c.args.symbols) c.loop-i.i 0 c.numbers-numbers.result c.numbers-numbers.ensures in
    any_goes (λ x. is_one_of c.args.gone.now x.st_shndx) (symbols_now c.args.symbols) c.loop-i.i y c.contains.result (list_any (λ x. is_one_of c.args.gone.now x.st_shndx) (symbols_now c.args.symbols)) at
    (c.contains.ensures ∙ ap (is_one_of c.args.gone.now) same) c.if-contains.false c.loop-i.invariant

pub returns : goal.returns
returns c =
    any_done (λ x. is_one_of c.args.gone.now x.st_shndx) (symbols_now c.args.symbols) c.loop-i.i (list_any (λ x. is_one_of c.args.gone.now x.st_shndx) (symbols_now c.args.symbols)) (omega arith) c.loop-i.invariant
