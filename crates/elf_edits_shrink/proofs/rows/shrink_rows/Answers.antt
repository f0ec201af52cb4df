-- Each row is computed.
use Rattle.std.proofs.Common.{refl}
use Rattle.elf_edits_shrink.proofs.Computing.{computing}
use Rattle.elf_edits_shrink.proofs.rows.shrink_rows.Goals as goal

pub returns : goal.returns
unfolding computing
returns c = record {
  found_in_one = record { left = refl; removed = refl };
  found_nowhere = record { left = refl; removed = refl };
  not_absolute = record { left = refl; removed = refl };
  nothing_goes = record { left = refl; removed = refl };
  another_machine = record { left = refl; removed = refl };
  first_answer_counts = record { left = refl; removed = refl };
  by_prefixes = record { left = refl; removed = refl };
  no_run_path = refl;
  questions = refl;
  all_questions = refl;
  prefixes = refl;
  texts_next = refl;
  nothing_shrinks = refl;
}
