-- Each row is computed.
use Rattle.std.proofs.Common.{refl}
use Rattle.test_elf_plain.proofs.Computing.{computing}
use Rattle.test_elf_plain.proofs.rows.table_rows.Goals as goal

pub returns : goal.returns
unfolding computing
returns c = record {
  tables = refl;
  twice = refl;
  needed_twice = refl;
  hash_elsewhere = refl;
  symbols_elsewhere = refl;
  no_such_table = refl;
  symbols_of_another_size = refl;
  versions_uncounted = refl;
  fewer_string_bytes = refl;
  more_string_bytes = refl;
  other_strings = refl;
}
