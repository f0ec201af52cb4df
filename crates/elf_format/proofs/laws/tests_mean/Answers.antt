-- The law is the lemma of that name.
use Rattle.elf_format.proofs.Meaning.{tests_mean}
use Rattle.elf_format.proofs.laws.tests_mean.Goals as goal

pub returns : goal.returns
returns c = tests_mean
