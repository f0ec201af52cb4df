-- Each row is computed.
use Rattle.std.proofs.Common.{refl}
use Rattle.test_elf_plain.proofs.Computing.{computing}
use Rattle.test_elf_plain.proofs.rows.interpreter_rows.Goals as goal

pub returns : goal.returns
unfolding computing
returns c = record {
  agrees = refl;
  another_place = refl;
  another_size = refl;
  another_size_in_memory = refl;
  another_type = refl;
}
