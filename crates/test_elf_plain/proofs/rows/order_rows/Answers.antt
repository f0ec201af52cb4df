-- Each row is computed.
use Rattle.std.proofs.Common.{refl}
use Rattle.test_elf_plain.proofs.Computing.{computing}
use Rattle.test_elf_plain.proofs.rows.order_rows.Goals as goal

pub returns : goal.returns
unfolding computing
returns c = record {
  kind_before_ranges = refl;
  ranges_before_sizes = refl;
  sizes_before_overlaps = refl;
  overlaps_before_holding = refl;
  holding_before_crossing = refl;
  crossing_before_linking = refl;
  linking_before_the_list = refl;
  list_before_interpreter = refl;
  list_before_interpreter_alone = refl;
  interpreter_before_tables = refl;
  tables_before_texts = refl;
  texts_before_versions = refl;
  versions_before_header_table = refl;
  header_table_last = refl;
}
