-- Each row is computed.
use Rattle.std.proofs.Common.{refl}
use Rattle.elf_edits.proofs.Computing.{computing}
use Rattle.elf_edits.proofs.rows.symbol_rows.Goals as goal

pub returns-clause-symbols : goal.returns-clause-symbols
unfolding computing
returns-clause-symbols c = record {
  swapped = refl;
  last_pair_counts = refl;
  empty_name = refl;
  first_keeps_name = refl;
  none_there = refl;
  cleared = refl;
  first_keeps_version = refl;
  no_versions = refl;
}

pub returns-clause-steps : goal.returns-clause-steps
unfolding computing
returns-clause-steps c = record {
  renamed = refl;
  same_name = refl;
  no_such_name = refl;
  no_pairs = refl;
  already_global = refl;
  no_such_symbol = refl;
  no_version = refl;
  fixed_name = refl;
  fixed_to_same = refl;
  fixed_others = refl;
  fixed_cleared = refl;
  nul_in_old = refl;
  nul_in_new = refl;
  nul_to_clear = refl;
  machine_first = refl;
  machine_to_clear = refl;
  without_list = refl;
  in_a_batch = refl;
  second_refused = refl;
}
