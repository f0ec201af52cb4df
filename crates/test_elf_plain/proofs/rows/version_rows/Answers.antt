-- Each row is computed.
use Rattle.std.proofs.Common.{refl}
use Rattle.test_elf_plain.proofs.Computing.{computing}
use Rattle.test_elf_plain.proofs.rows.version_rows.Goals as goal

pub returns : goal.returns
unfolding computing
returns c = record {
  known = refl;
  known_and_hidden = refl;
  unknown = refl;
  of_no_record = refl;
  last_next = refl;
  no_next_record = refl;
  record_outside = refl;
  no_next_name = refl;
  a_symbol_without_version = refl;
  another_user_of_the_strings = refl;
  no_section_with_that_link = refl;
}
