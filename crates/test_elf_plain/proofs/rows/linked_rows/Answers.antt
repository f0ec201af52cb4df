-- Each row is computed.
use Rattle.std.proofs.Common.{refl}
use Rattle.test_elf_plain.proofs.Computing.{computing}
use Rattle.test_elf_plain.proofs.rows.linked_rows.Goals as goal

pub returns : goal.returns
unfolding computing
returns c = record {
  one_header_table = refl;
  two_header_tables = refl;
  two_notes = refl;
  two_lists = refl;
  list_without_strings = refl;
  link_past_the_table = refl;
  hash_without_symbols = refl;
  symbols_whole = refl;
  symbols_in_part = refl;
  symbol_of_no_section = refl;
  symbol_of_special_meaning = refl;
  relocation_of_a_symbol = refl;
  relocation_of_no_symbol = refl;
  relocations_in_part = refl;
  opaque_relocations = refl;
  opaque_relocations_in_part = refl;
  plain_relocations_in_part = refl;
  info_is_a_section = refl;
  info_is_no_section = refl;
  info_by_flag = refl;
  info_of_another_meaning = refl;
  info_of_no_section = refl;
}
