-- The law is the lemma of that name.
use Rattle.elf_format.proofs.Placed.{held_ranges_are_seen}
use Rattle.elf_format.proofs.laws.held_ranges_are_seen.Goals as goal

pub returns : goal.returns
returns c = held_ranges_are_seen
