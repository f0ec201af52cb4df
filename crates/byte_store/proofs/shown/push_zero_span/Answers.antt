use Rattle.std.proofs.Common.{arith}
use Rattle.byte_store.proofs.ShownLaws.{adds_no_zeros, adds_zeros}
use Rattle.byte_store.proofs.shown.push_zero_span.Goals as goal

pub loop-at-init : goal.loop-at-init
loop-at-init c = record {
  start = omega arith;
  end = c.requires.inside.0;
  adds = adds_no_zeros c.args.front.now c.args.span.start c.args.changes.now.items;
}

pub loop-at-preserved : goal.loop-at-preserved
loop-at-preserved c = record {
  start = omega (arith, c.loop-at.invariant.start);
  end = omega (arith, c.min-len.ensures, c.loop-at-test.true);
  adds =
      adds_zeros c.args.front.now c.args.block.now c.args.span.start c.loop-at.at c.min-len.result _ _ _
      c.loop-at.invariant.start (omega (arith, c.min-len.ensures, c.loop-at-test.true, c.requires.some)) (omega (arith, c.min-len.ensures))
      c.requires.zeros c.loop-at.invariant.adds c.in_ok-push_differences.ensures;
}
