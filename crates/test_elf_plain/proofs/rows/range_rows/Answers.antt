-- Each row is computed.
use Rattle.std.proofs.Common.{refl}
use Rattle.test_elf_plain.proofs.Computing.{computing}
use Rattle.test_elf_plain.proofs.rows.range_rows.Goals as goal

pub returns : goal.returns
unfolding computing
returns c = record {
  whole = refl;
  a_byte_short = refl;
  inside_the_section_table = refl;
  names_to_the_end = refl;
  names_past_the_end = refl;
  empty_at_the_end = refl;
  empty_past_the_end = refl;
  uninitialized_past_the_end = refl;
  huge_size = refl;
  load_to_the_end = refl;
  load_past_the_end = refl;
  note_past_the_end = refl;
  more_memory = refl;
  less_memory = refl;
}
