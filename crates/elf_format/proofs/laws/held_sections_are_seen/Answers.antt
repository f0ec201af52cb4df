-- The law is the lemma of that name.
use Rattle.elf_format.proofs.Placed.{held_sections_are_seen}
use Rattle.elf_format.proofs.laws.held_sections_are_seen.Goals as goal

pub returns : goal.returns
returns c = held_sections_are_seen
