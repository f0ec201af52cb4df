-- The law is the lemma of that name.
use Rattle.elf_format.proofs.ReadNumbers.{numbers_there}
use Rattle.elf_format.proofs.laws.numbers_are_there.Goals as goal

pub returns : goal.returns
returns c = numbers_there
