use Rattle.std.proofs.Common.{◌∙◌, refl}
use Rattle.elf_layout_moves.proofs.blocks.push_sections.Goals as goal

pub loop-position-init : goal.loop-position-init
loop-position-init c = refl

pub loop-position-preserved : goal.loop-position-preserved
loop-position-preserved c = c.in_ok-push_section.ensures ∙ c.loop-position.invariant
