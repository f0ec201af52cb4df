-- One place of the order after another.
use Rattle.std.proofs.Common.{◌≡◌, ◌<◌, ℕ, List, Some, length, get_or, refl, sym, ap, ◌∙◌, arith}
use Rattle.std.specs.List.{slice_get}
use Rattle.std.proofs.lemmas.List.{length-set}
use Rattle.elf_format.specs.Image.{Image}
use Rattle.elf_write_symbols.proofs.NumberFacts.{dynamic_apart, dynamic_old, dynamic_olds, dynamic_told, numbered_more, old_below, place_below, place_there, places_few}
use Rattle.elf_write_symbols.proofs.ReadyFacts.{facts}
use Rattle.elf_write_symbols.proofs.numbers.number_dynamic.Goals as goal

pub read_number-number-requires : goal.read_number-number-requires
read_number-number-requires c =
    let read : Image = c.args.read.now in
    let image : Image = c.args.image.now in
    omega (
      arith,
      place_below read image (facts read image c.requires.ready) c.args.order.now c.requires.order c.loop-i.i c.loop-i-test.true,
      ap length c.dynamic_symbols-symbols.ensures.symbols,
    )

pub overflow_cast-numbers : goal.overflow_cast-numbers
overflow_cast-numbers c =
    let read : Image = c.args.read.now in
    let image : Image = c.args.image.now in
    omega (
      arith,
      c.loop-i-test.true,
      c.requires.few,
      places_few read image (facts read image c.requires.ready) c.args.order.now c.requires.order,
    )

pub offset_bounds-numbers-number : goal.offset_bounds-numbers-number
offset_bounds-numbers-number c =
    let read : Image = c.args.read.now in
    let image : Image = c.args.image.now in
    let n : ℕ = c.read_number-number.result in
    let number : slice_get image.dynamic_symbol_numbers (get_or c.args.order.now c.loop-i.i 0) ≡ Some n =
    ap (λ (l : List ℕ). slice_get l (get_or c.args.order.now c.loop-i.i 0)) (sym c.dynamic_symbols-symbols.ensures.numbers)
    ∙ c.read_number-number.ensures in
    let below : n < length read.dynamic_symbols =
    old_below read image (facts read image c.requires.ready) (get_or c.args.order.now c.loop-i.i 0) n number in
    let within : n < length c.loop-i.numbers = omega (arith, below, c.loop-i.invariant.0) in
    grind arith

pub bounds-numbers-number : goal.bounds-numbers-number
bounds-numbers-number c =
    let read : Image = c.args.read.now in
    let image : Image = c.args.image.now in
    let n : ℕ = c.read_number-number.result in
    let number : slice_get image.dynamic_symbol_numbers (get_or c.args.order.now c.loop-i.i 0) ≡ Some n =
    ap (λ (l : List ℕ). slice_get l (get_or c.args.order.now c.loop-i.i 0)) (sym c.dynamic_symbols-symbols.ensures.numbers)
    ∙ c.read_number-number.ensures in
    let below : n < length read.dynamic_symbols =
    old_below read image (facts read image c.requires.ready) (get_or c.args.order.now c.loop-i.i 0) n number in
    omega (arith, below, c.loop-i.invariant.0)

pub loop-i-preserved : goal.loop-i-preserved
loop-i-preserved c =
    let read : Image = c.args.read.now in
    let image : Image = c.args.image.now in
    let f = facts read image c.requires.ready in
    let n : ℕ = c.read_number-number.result in
    let m : ℕ = get_or c.args.order.now c.loop-i.i 0 in
    let number : slice_get image.dynamic_symbol_numbers m ≡ Some n =
    ap (λ (l : List ℕ). slice_get l m) (sym c.dynamic_symbols-symbols.ensures.numbers) ∙ c.read_number-number.ensures in
    let at : slice_get (dynamic_olds read image) c.loop-i.i ≡ Some n =
    dynamic_old read image f c.loop-i.i m n (place_there read image f c.args.order.now c.requires.order c.loop-i.i c.loop-i-test.true) number in
    let within : n < length c.loop-i.numbers = omega (arith, old_below read image f m n number, c.loop-i.invariant.0) in (
      length-set c.loop-i.numbers n c.loop-i.i ∙ c.loop-i.invariant.0,
      numbered_more (dynamic_olds read image) c.loop-i.i n c.loop-i.numbers _ (dynamic_apart read image f) at within c.loop-i.invariant.1 refl,
    )

pub returns : goal.returns
returns c =
    let read : Image = c.args.read.now in
    let image : Image = c.args.image.now in
    dynamic_told read image (facts read image c.requires.ready) c.loop-i.numbers c.loop-i.i c.loop-i.invariant.0
    (omega (arith, c.loop-i-test.false, ap length c.requires.order)) c.loop-i.invariant.1
