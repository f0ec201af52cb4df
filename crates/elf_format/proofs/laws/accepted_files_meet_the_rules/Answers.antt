-- The law is the lemma of that name.
use Rattle.elf_format.proofs.Accepted.{accepted_files_meet_the_rules}
use Rattle.elf_format.proofs.laws.accepted_files_meet_the_rules.Goals as goal

pub returns : goal.returns
returns c = accepted_files_meet_the_rules
