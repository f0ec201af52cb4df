-- Each row is computed.
use Rattle.std.proofs.Common.{refl}
use Rattle.test_elf_plain.proofs.Computing.{computing}
use Rattle.test_elf_plain.proofs.rows.moved_rows.Goals as goal

pub returns : goal.returns
unfolding computing
returns c = record { at_the_top = refl; shown = refl; loaded = refl }
