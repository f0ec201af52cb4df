-- Each row is computed.
use Rattle.std.proofs.Common.{refl}
use Rattle.test_elf_plain.proofs.Computing.{computing}
use Rattle.test_elf_plain.proofs.rows.kind_rows.Goals as goal

pub returns : goal.returns
unfolding computing
returns c = record {
  strings_of_symbols_alone = refl;
  user_of_symbols_alone = refl;
  other_machine = refl;
  mips = refl;
  narrow_type = refl;
  narrow_symbol = refl;
  hash_of_words = refl;
  hash_of_double_words = refl;
  gnu_hash_in_part = refl;
  versions_in_part = refl;
  null_section_anywhere = refl;
  name_of_a_broken_chain = refl;
  broken_chain = refl;
  counted = refl;
  counted_wrong = refl;
}
