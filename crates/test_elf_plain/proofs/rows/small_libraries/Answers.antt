-- Each row is computed.
use Rattle.std.proofs.Common.{refl}
use Rattle.test_elf_plain.proofs.Computing.{computing}
use Rattle.test_elf_plain.proofs.rows.small_libraries.Goals as goal

pub returns-clause-library : goal.returns-clause-library
unfolding computing
returns-clause-library c = record { size_is = refl; accepted = refl; shown = refl; loaded = refl; counted = refl }

pub returns-clause-twin : goal.returns-clause-twin
unfolding computing
returns-clause-twin c = record { size_is = refl; accepted = refl; shown = refl; loaded = refl; counted = refl }
