use Rattle.elf_layout_segments.proofs.LeastSteps.{next_doubled}
use Rattle.elf_layout_segments.proofs.leasts.doubled.Goals as goal

pub loop-place-preserved : goal.loop-place-preserved
loop-place-preserved c = λ numbers are.
    next_doubled numbers c.args.width c.loop-place.place c.loop-place.made.items c.push.new.self.items c.lesser_at.result c.in_ok-push.ensures.items (c.lesser_at.ensures numbers are)
    (c.loop-place.invariant numbers are)
