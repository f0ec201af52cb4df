-- Each row is computed.
use Rattle.std.proofs.Common.{refl}
use Rattle.elf_tables.specs.Strings.{table_length}
use Rattle.elf_tables.proofs.rows.table_rows.Goals as goal

pub returns : goal.returns
unfolding table_length
returns c = record {
  none = refl;
  empty = refl;
  ends = refl;
  apart = refl;
  begins = refl;
  twice = refl;
  several = refl;
}
