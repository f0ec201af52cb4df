-- One symbol after another.
use Rattle.std.proofs.Common.{◌≡◌, ◌<◌, ℕ, List, Some, length, refl, sym, ap, ◌∙◌, arith}
use Rattle.std.specs.List.{slice_get}
use Rattle.std.proofs.lemmas.List.{length-set}
use Rattle.elf_format.specs.Image.{Image}
use Rattle.elf_write_spec.proofs.ForCallers.StaticSymbols.{static_below}
use Rattle.elf_write_symbols.proofs.NumberFacts.{numbered_more, static_apart, static_told}
use Rattle.elf_write_symbols.proofs.ReadyFacts.{facts}
use Rattle.elf_write_symbols.proofs.numbers.number_static.Goals as goal

pub offset_bounds-numbers-number : goal.offset_bounds-numbers-number
offset_bounds-numbers-number c =
    let read : Image = c.args.read.now in
    let image : Image = c.args.image.now in
    let n : ℕ = c.read_number-number.result in
    let number : slice_get image.symbol_numbers c.loop-i.i ≡ Some n =
    ap (λ (l : List ℕ). slice_get l c.loop-i.i) (sym c.symbols-symbols.ensures.numbers) ∙ c.read_number-number.ensures in
    let within : n < length c.loop-i.numbers =
    omega (arith, static_below read image (facts read image c.requires.ready) c.loop-i.i n number, c.loop-i.invariant.0) in
    grind arith

pub bounds-numbers-number : goal.bounds-numbers-number
bounds-numbers-number c =
    let read : Image = c.args.read.now in
    let image : Image = c.args.image.now in
    let n : ℕ = c.read_number-number.result in
    let number : slice_get image.symbol_numbers c.loop-i.i ≡ Some n =
    ap (λ (l : List ℕ). slice_get l c.loop-i.i) (sym c.symbols-symbols.ensures.numbers) ∙ c.read_number-number.ensures in
    omega (arith, static_below read image (facts read image c.requires.ready) c.loop-i.i n number, c.loop-i.invariant.0)

pub loop-i-preserved : goal.loop-i-preserved
loop-i-preserved c =
    let read : Image = c.args.read.now in
    let image : Image = c.args.image.now in
    let f = facts read image c.requires.ready in
    let n : ℕ = c.read_number-number.result in
    let number : slice_get image.symbol_numbers c.loop-i.i ≡ Some n =
    ap (λ (l : List ℕ). slice_get l c.loop-i.i) (sym c.symbols-symbols.ensures.numbers) ∙ c.read_number-number.ensures in
    let within : n < length c.loop-i.numbers = omega (arith, static_below read image f c.loop-i.i n number, c.loop-i.invariant.0) in (
      length-set c.loop-i.numbers n c.loop-i.i ∙ c.loop-i.invariant.0,
      numbered_more image.symbol_numbers c.loop-i.i n c.loop-i.numbers _ (static_apart read image f) number within c.loop-i.invariant.1 refl,
    )

pub returns : goal.returns
returns c =
    let read : Image = c.args.read.now in
    let image : Image = c.args.image.now in
    static_told read image (facts read image c.requires.ready) c.loop-i.numbers c.loop-i.i c.loop-i.invariant.0
    (omega (arith, c.loop-i-test.false, c.len-i-end.ensures, ap length c.symbols-symbols.ensures.symbols)) c.loop-i.invariant.1
