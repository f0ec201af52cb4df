-- Each row is computed.
use Rattle.std.proofs.Common.{refl}
use Rattle.test_elf_plain.proofs.Computing.{computing}
use Rattle.test_elf_plain.proofs.rows.dynamic_rows.Goals as goal

pub returns : goal.returns
unfolding computing
returns c = record {
  agrees = refl;
  another_offset = refl;
  another_address = refl;
  no_segment = refl;
  no_section = refl;
  not_allocated = refl;
  longer_segment = refl;
  end_past_the_segment = refl;
  end_past_the_section = refl;
  no_list = refl;
}
