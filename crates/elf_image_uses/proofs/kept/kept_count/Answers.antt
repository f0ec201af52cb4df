-- As many sections are lent as the image has.
use Rattle.elf_image_uses.proofs.KeptSteps.{lent_long}
use Rattle.elf_image_uses.proofs.kept.kept_count.Goals as goal

pub returns : goal.returns
returns c = lent_long c.args.image.now c.source-source.ensures.edited c.sections.result.now c.sections.ensures
