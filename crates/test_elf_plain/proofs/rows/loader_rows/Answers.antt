-- Each row is computed.
use Rattle.std.proofs.Common.{refl}
use Rattle.test_elf_plain.proofs.Computing.{computing}
use Rattle.test_elf_plain.proofs.rows.loader_rows.Goals as goal

pub returns : goal.returns
unfolding computing
returns c = record {
  first_segment = refl;
  second_segment = refl;
  past_the_file_part = refl;
  other_segments = refl;
  list_not_loaded = refl;
  strings_past_their_size = refl;
  sections_show_them = refl;
  no_strings = refl;
  symbols_of_another_size = refl;
  without_sections = refl;
  sections_need_them = refl;
  first_stack = refl;
  first_stack_by_sections = refl;
}
