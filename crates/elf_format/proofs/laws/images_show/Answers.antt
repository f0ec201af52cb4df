-- The law over images is the lemma of that name.
use Rattle.elf_format.proofs.ImageShows.{images_show}
use Rattle.elf_format.proofs.laws.images_show.Goals as goal

pub returns : goal.returns
returns c = images_show
