-- Each row is computed.
use Rattle.std.proofs.Common.{refl}
use Rattle.test_elf_plain.proofs.Computing.{computing}
use Rattle.test_elf_plain.proofs.rows.text_rows.Goals as goal

pub returns : goal.returns
unfolding computing
returns c = record {
  last_text = refl;
  text_outside = refl;
  past_the_count = refl;
  without_a_count = refl;
  not_a_text_tag = refl;
  section_name_outside = refl;
  section_name_at_the_end = refl;
  symbol_name_outside = refl;
  symbol_name_at_the_end = refl;
}
