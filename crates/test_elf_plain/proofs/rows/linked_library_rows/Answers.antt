-- Each row is computed.
use Rattle.std.proofs.Common.{refl}
use Rattle.test_elf_plain.proofs.Computing.{computing}
use Rattle.test_elf_plain.proofs.rows.linked_library_rows.Goals as goal

pub returns : goal.returns
unfolding computing
returns c = record { accepted = refl; shown = refl; counted = refl; loaded = refl }
