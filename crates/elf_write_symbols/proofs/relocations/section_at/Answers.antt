-- The section at the position is the image's.
use Rattle.std.proofs.Common.{refl}
use Rattle.elf_format.specs.Image.{Image}
use Rattle.elf_image.specs.ImageModel.{section_model}
use Rattle.elf_write_symbols.proofs.ReadyFacts.{facts, kept_there, lent_there}
use Rattle.elf_write_symbols.proofs.relocations.section_at.Goals as goal

pub returns-clause-at : goal.returns-clause-at
returns-clause-at c =
    let image : Image = c.args.image.now in
    record {
      position = c.args.i;
      there = lent_there c.sections.result.now image.sections c.args.i c.index-sections-i.result c.sections.ensures c.requires.inside c.index-sections-i.is;
      typed = refl;
    }

pub returns-clause-kept : goal.returns-clause-kept
returns-clause-kept c =
    let read : Image = c.args.read.now in
    let image : Image = c.args.image.now in
    kept_there read image (facts read image c.requires.ready) c.args.i (section_model c.index-sections-i.result)
    (lent_there c.sections.result.now image.sections c.args.i c.index-sections-i.result c.sections.ensures c.requires.inside c.index-sections-i.is)
