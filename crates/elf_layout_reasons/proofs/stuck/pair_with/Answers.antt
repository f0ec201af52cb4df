-- Where two blocks are stuck there is a first pair.
use Rattle.std.proofs.Common.{sym, subst, ◌∙◌}
use Rattle.elf_layout_plan.specs.Memory.{Resized}
use Rattle.elf_layout_moves.specs.ImageBlocks.{AreNumbered}
use Rattle.elf_layout_moves.specs.Inner.{IsResized}
use Rattle.elf_layout_moves.proofs.MovedLaws.{as_many_sizes}
use Rattle.elf_layout_reasons.proofs.RoundsEnd.{stuck_there}
use Rattle.elf_layout_reasons.proofs.stuck.pair_with.Goals as goal

pub blocks_of-requires-clause-sized : goal.blocks_of-requires-clause-sized
blocks_of-requires-clause-sized c =
    let is = subst (λ (q : Resized). IsResized q) c.r.view_is c.r.invariant in
    let numbered = subst (λ (q : Resized). AreNumbered q.image) c.r.view_is c.source-image.ensures.edited.is_edit.sections.numbered in
    as_many_sizes c.args.r.now is numbered

pub unreachable-requires : goal.unreachable-requires
unreachable-requires c =
    stuck_there c.args.r.now c.args.looked c.deref.result.now c.requires (c.deref.ensures.value ∙ c.in_ok-blocks.ensures) (sym c.first_pair.ensures ∙ c.in_default.is)
