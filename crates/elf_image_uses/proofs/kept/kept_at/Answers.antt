-- The section at the position is the one that has the number there.
use Rattle.std.proofs.Common.{arith}
use Rattle.elf_image.specs.ImageModel.{section_model}
use Rattle.elf_image_uses.proofs.KeptSteps.{kept_long, kept_there}
use Rattle.elf_image_uses.proofs.kept.kept_at.Goals as goal

pub read_section-number-requires : goal.read_section-number-requires
read_section-number-requires c = omega (arith, c.requires, kept_long c.args.image.now c.source-source.ensures.edited)

pub section_at-requires : goal.section_at-requires
section_at-requires c = omega (arith, c.requires, kept_long c.args.image.now c.source-source.ensures.edited)

pub returns : goal.returns
returns c =
    kept_there c.args.image.now c.source-source.ensures.edited c.args.i c.read_section-number.result (section_model c.section_at.result.now) c.section_at.ensures c.read_section-number.ensures
