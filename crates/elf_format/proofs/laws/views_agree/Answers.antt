-- The law over accepted files is the lemma of that name, at the room of the file's length and at any room.
use Rattle.elf_format.proofs.ViewsAgree.{views_agree}
use Rattle.elf_format.proofs.laws.views_agree.Goals as goal

pub returns : goal.returns
returns c = views_agree
