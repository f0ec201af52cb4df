-- The law is the lemma of that name.
use Rattle.elf_format.proofs.PlacementTests.{placement_tests_mean}
use Rattle.elf_format.proofs.laws.placement_tests_mean.Goals as goal

pub returns : goal.returns
returns c = placement_tests_mean
