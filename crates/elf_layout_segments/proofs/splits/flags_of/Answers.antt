use Rattle.std.proofs.Common.{get_or, sym, ap, ◌∙◌}
use Rattle.elf_layout_segments.specs.SplitCounts.{with_flags}
use Rattle.elf_layout_segments.proofs.SplitSteps.{flags-more, flags-none}
use Rattle.elf_layout_segments.proofs.splits.flags_of.Goals as goal

pub loop-position-init : goal.loop-position-init
loop-position-init c = c.new-flags.ensures.items ∙ sym (flags-none c.args.r.now)

pub loop-position-preserved : goal.loop-position-preserved
loop-position-preserved c =
    c.in_ok-add_flags_at.ensures
    ∙ ap (λ l. with_flags c.args.r.now.image.moves_dynamic c.args.r.now.image.sections l (get_or c.args.moved.now c.loop-position.position-index 0)) c.loop-position.invariant
    ∙ sym (flags-more c.args.r.now c.sections_have_sizes.ensures c.args.moved.now c.loop-position.position-index c.loop-position-test.true)
