use Rattle.std.proofs.Common.{take}
use Rattle.std.proofs.lemmas.List.{take_all}
use Rattle.elf_layout_moves.proofs.LimitSteps.{all_seen, next_limited, none_limited}
use Rattle.elf_layout_moves.proofs.limits.limits_of_moved.Goals as goal

pub loop-position-init : goal.loop-position-init
loop-position-init c = λ from. none_limited c.args.count from c.in_ok-limits.limits.items (c.in_ok-limits.ensures.items_if_clones_equal (λ y same. same))

pub loop-position-preserved : goal.loop-position-preserved
loop-position-preserved c = λ from.
    next_limited c.args.count from c.args.moved.now c.loop-position.position-index c.loop-position.limits.items c.loop-position-test.true
    (c.requires c.loop-position.position-index 0 c.loop-position-test.true) (c.loop-position.invariant from)

pub returns : goal.returns
returns c = λ from.
    all_seen c.args.count from (take c.loop-position.position-index c.args.moved.now) c.args.moved.now c.loop-position.limits.items
    (take_all c.loop-position.position-index c.args.moved.now c.loop-position-test.false) (c.loop-position.invariant from)
