-- The law over images is the lemma of that name.
use Rattle.elf_image.proofs.ReadImageLaws.{read_images_hold_parts}
use Rattle.elf_image.proofs.laws.read_images_hold_parts.Goals as goal

pub returns : goal.returns
returns c = read_images_hold_parts
