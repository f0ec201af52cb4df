-- Each row is computed.
use Rattle.std.proofs.Common.{refl}
use Rattle.test_elf_plain.proofs.Computing.{computing}
use Rattle.test_elf_plain.proofs.rows.loaded_rows.Goals as goal

pub returns : goal.returns
unfolding computing
returns c = record {
  held = refl;
  to_the_end = refl;
  past_the_end = refl;
  at_another_distance = refl;
  not_allocated = refl;
  empty_elsewhere = refl;
  next_to_another = refl;
  over_another = refl;
  behind_the_headers = refl;
  over_the_segment_table = refl;
  over_the_file_header = refl;
  at_the_start = refl;
  no_segment = refl;
}
