use Rattle.byte_store.specs.Shown.{zero_patch}
use Rattle.byte_store.specs.declared.composed.Span.{Span}
use Rattle.byte_store.proofs.ShownLaws.{adds_next, adds_none}
use Rattle.byte_store.proofs.shown.push_zeros.Goals as goal

abbrev none : Span
none = record { start = 0; end = 0 }

pub loop-span-init : goal.loop-span-init
loop-span-init c = adds_none c.args.front.now c.args.changes.now.items

pub loop-span-preserved : goal.loop-span-preserved
loop-span-preserved c =
    adds_next zero_patch c.args.front.now c.args.spans.now c.loop-span.span-index none _ _ _ c.loop-span-test.true c.loop-span.invariant c.in_ok-push_zero_span.ensures
