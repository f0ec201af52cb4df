-- Each row is computed.
use Rattle.std.proofs.Common.{refl}
use Rattle.test_elf_plain.proofs.Computing.{computing}
use Rattle.test_elf_plain.proofs.rows.header_table_rows.Goals as goal

pub returns : goal.returns
unfolding computing
returns c = record {
  loaded = refl;
  not_loaded = refl;
  not_told = refl;
}
