-- Each row is computed.
use Rattle.std.proofs.Common.{refl}
use Rattle.test_elf_plain.proofs.Computing.{computing}
use Rattle.test_elf_plain.proofs.rows.versioned_libraries.Goals as goal

pub returns-clause-little64 : goal.returns-clause-little64
unfolding computing
returns-clause-little64 c = record { accepted = refl; shown = refl; counted = refl; loaded = refl; fewer = refl; too_many = refl }

pub returns-clause-big32 : goal.returns-clause-big32
unfolding computing
returns-clause-big32 c = record { accepted = refl; shown = refl; counted = refl; loaded = refl; fewer = refl; too_many = refl }
