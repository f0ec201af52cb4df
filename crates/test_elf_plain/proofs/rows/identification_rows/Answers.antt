-- Each row is computed.
use Rattle.std.proofs.Common.{refl}
use Rattle.test_elf_plain.proofs.Computing.{computing}
use Rattle.test_elf_plain.proofs.rows.identification_rows.Goals as goal

pub returns : goal.returns
unfolding computing
returns c = record {
  nothing = refl;
  fifteen_bytes = refl;
  other_file = refl;
  no_class = refl;
  identification_alone = refl;
  most_of_the_header = refl;
}
