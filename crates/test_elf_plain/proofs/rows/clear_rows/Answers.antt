-- Each row is computed.
use Rattle.std.proofs.Common.{refl}
use Rattle.test_elf_plain.proofs.Computing.{computing}
use Rattle.test_elf_plain.proofs.rows.clear_rows.Goals as goal

pub returns : goal.returns
unfolding computing
returns c = record {
  behind = refl;
  across = refl;
  up_to_it = refl;
  of_threads = refl;
  not_allocated = refl;
}
