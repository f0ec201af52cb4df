-- Each row is computed.
use Rattle.std.proofs.Common.{refl}
use Rattle.test_elf_plain.proofs.Computing.{computing}
use Rattle.test_elf_plain.proofs.rows.entry_rows.Goals as goal

pub returns : goal.returns
unfolding computing
returns c = record {
  texts = refl;
  tables = refl;
  others = refl;
}
