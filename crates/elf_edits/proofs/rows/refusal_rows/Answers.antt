-- Each row is computed.
use Rattle.std.proofs.Common.{refl}
use Rattle.elf_edits.proofs.Computing.{computing}
use Rattle.elf_edits.proofs.rows.refusal_rows.Goals as goal

pub returns-clause-causes : goal.returns-clause-causes
unfolding computing
returns-clause-causes c = record {
  set = refl;
  added = refl;
  deleted = refl;
  replaced = refl;
  replaced_by = refl;
  needed_more = refl;
  named = refl;
  abi = refl;
  machine_first = refl;
  pages_of_mips = refl;
  list_next = refl;
  interpreter_next = refl;
  list_of_defaults = refl;
}

pub returns-clause-marks : goal.returns-clause-marks
unfolding computing
returns-clause-marks c = record {
  no_run_path = refl;
  no_rpath = refl;
  no_such_library = refl;
  no_such_key = refl;
  needed_already = refl;
  debug_there = refl;
  equal_run_path = refl;
  no_directories = refl;
  equal_library = refl;
  equal_abi = refl;
}
