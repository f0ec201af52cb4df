-- Each row is computed.
use Rattle.std.proofs.Common.{refl}
use Rattle.test_elf_plain.proofs.Computing.{computing}
use Rattle.test_elf_plain.proofs.rows.apart_rows.Goals as goal

pub returns : goal.returns
unfolding computing
returns c = record {
  next_to_it = refl;
  a_byte_of_the_file_shared = refl;
  an_address_shared = refl;
  empty_within = refl;
  page_next = refl;
  page_shared = refl;
}
