-- Each row is computed.
use Rattle.std.proofs.Common.{refl}
use Rattle.test_elf_plain.proofs.Computing.{computing}
use Rattle.test_elf_plain.proofs.rows.file_kind_rows.Goals as goal

pub returns : goal.returns
unfolding computing
returns c = record {
  program = refl;
  core_dump = refl;
  no_section_table = refl;
  no_sections = refl;
  most_sections = refl;
  too_many_sections = refl;
  most_segments = refl;
  too_many_segments = refl;
  other_segment_size = refl;
  other_section_size = refl;
  names_in_another_table = refl;
  names_in_the_list = refl;
  names_past_the_table = refl;
  table_outside = refl;
  ordinary_symbol = refl;
  symbol_elsewhere = refl;
}
