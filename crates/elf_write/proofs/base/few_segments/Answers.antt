use Rattle.elf_write.proofs.LayingPlaces.{few_segments}
use Rattle.elf_write.proofs.base.few_segments.Goals as goal

pub returns : goal.returns
returns c = few_segments c.args.read.now c.args.image.now c.requires
