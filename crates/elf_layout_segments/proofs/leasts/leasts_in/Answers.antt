use Rattle.std.proofs.Common.{arith}
use Rattle.elf_layout_segments.proofs.LeastSteps.{all_leasts, empty_answered, own_leasts}
use Rattle.elf_layout_segments.proofs.leasts.leasts_in.Goals as goal

pub loop-width-init : goal.loop-width-init
loop-width-init c = record {
  some = omega arith;
  leasts = own_leasts c.args.numbers.items;
  answered = empty_answered c.args.numbers.items c.args.asked.now c.in_ok-answers.answers.items (c.in_ok-answers.ensures.items_if_clones_equal (λ y same. same));
}

pub returns : goal.returns
returns c =
    all_leasts c.args.numbers.items c.loop-width.row.items c.args.asked.now c.loop-width.width c.loop-width.answers.items (omega (arith, c.loop-width-test.false))
    c.loop-width.invariant.leasts.many c.requires c.loop-width.invariant.answered
