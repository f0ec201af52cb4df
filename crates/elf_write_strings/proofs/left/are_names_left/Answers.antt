use Rattle.std.proofs.Common.{◌≡◌, ◌∙◌, List, length, sym, arith}
use Rattle.std.proofs.lemmas.List.{length-map}
use Rattle.elf_format.specs.Views.{NamedSymbol}
use Rattle.elf_image_symbols.specs.Loan.{numbers_now, symbols_now}
use Rattle.elf_layout_plan.specs.Texts.{texts_of_symbols}
use Rattle.elf_write_strings.specs.WrittenStrings.{are_texts_left}
use Rattle.elf_write_strings.proofs.NamesLeft.{left_all, left_on, left_out}
use Rattle.elf_write_strings.proofs.left.are_names_left.Goals as goal

pub loop-i-preserved : goal.loop-i-preserved
loop-i-preserved c =
    let ys : List NamedSymbol = symbols_now c.args.now in
    let long : length (texts_of_symbols ys) ≡ length ys = length-map ys (λ (y : NamedSymbol). y.name) in
    left_on (texts_of_symbols (symbols_now c.args.read)) (numbers_now c.args.now) (texts_of_symbols ys) c.loop-i.i
    (are_texts_left (texts_of_symbols (symbols_now c.args.read)) (numbers_now c.args.now) (texts_of_symbols ys))
    (omega (arith, long, c.loop-i-test.true)) (sym c.is_name_left.ensures ∙ c.if-not-is_name_left.false) c.loop-i.invariant

pub returns-then-not-is_name_left : goal.returns-then-not-is_name_left
returns-then-not-is_name_left c =
    let ys : List NamedSymbol = symbols_now c.args.now in
    let long : length (texts_of_symbols ys) ≡ length ys = length-map ys (λ (y : NamedSymbol). y.name) in
    left_out (texts_of_symbols (symbols_now c.args.read)) (numbers_now c.args.now) (texts_of_symbols ys) c.loop-i.i
    (are_texts_left (texts_of_symbols (symbols_now c.args.read)) (numbers_now c.args.now) (texts_of_symbols ys))
    (omega (arith, long, c.loop-i-test.true)) (sym c.is_name_left.ensures ∙ c.if-not-is_name_left.true) c.loop-i.invariant

pub returns : goal.returns
returns c =
    let ys : List NamedSymbol = symbols_now c.args.now in
    let long : length (texts_of_symbols ys) ≡ length ys = length-map ys (λ (y : NamedSymbol). y.name) in
    left_all (texts_of_symbols (symbols_now c.args.read)) (numbers_now c.args.now) (texts_of_symbols ys) c.loop-i.i
    (are_texts_left (texts_of_symbols (symbols_now c.args.read)) (numbers_now c.args.now) (texts_of_symbols ys))
    (omega (arith, long, c.loop-i-test.false)) c.loop-i.invariant
