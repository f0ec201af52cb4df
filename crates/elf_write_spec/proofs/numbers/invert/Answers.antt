-- One position after another.
use Rattle.std.proofs.Common.{◌≡◌, ◌<◌, length, get_or, refl, arith}
use Rattle.elf_write_spec.proofs.InverseSteps.{inside, invert-all, invert-more}
use Rattle.elf_write_spec.proofs.numbers.invert.Goals as goal

pub offset_bounds-numbers-order : goal.offset_bounds-numbers-order
offset_bounds-numbers-order c =
    let below : get_or c.args.order.now c.loop-i.i 0 < length c.args.order.now = inside c.args.order.now c.requires.once c.loop-i.i c.loop-i-test.true in
    grind arith

pub bounds-numbers-order : goal.bounds-numbers-order
bounds-numbers-order c =
    let below : get_or c.args.order.now c.loop-i.i 0 < length c.args.order.now = inside c.args.order.now c.requires.once c.loop-i.i c.loop-i-test.true in
    omega arith

pub loop-i-preserved : goal.loop-i-preserved
loop-i-preserved c =
    let long : length c.loop-i.numbers ≡ length c.args.order.now = omega arith in
    invert-more c.args.order.now c.requires.once c.loop-i.numbers _ c.loop-i.i c.loop-i-test.true long c.loop-i.invariant refl

pub returns : goal.returns
returns c =
    let long : length c.loop-i.numbers ≡ length c.args.order.now = omega arith in
    invert-all c.args.order.now c.requires.once c.loop-i.numbers long (λ k less. c.loop-i.invariant k (omega (arith, less)))
