-- Each row is computed.
use Rattle.std.proofs.Common.{refl}
use Rattle.patch_bytes.specs.Memory.{bytes_at, number_in}
use Rattle.patch_bytes.specs.Number.{number_at}
use Rattle.elf_format.specs.Form.{records}
use Rattle.elf_format.specs.Hashes.{gnu_header}
use Rattle.elf_format.specs.Records.{relocation}
use Rattle.elf_symbol_edits.proofs.rows.refusal_rows.Goals as goal

pub returns : goal.returns
unfolding bytes_at number_in number_at records gnu_header relocation lib.Count.ones
returns c = record {
  dynamic_named = refl;
  of_another_symbol = refl;
  of_another_table = refl;
  static_named = refl;
  relocated_along = refl;
  static_fixed = refl;
  fixed_along = refl;
  dynamic_fixed = refl;
  not_fixed = refl;
  table_fixed = refl;
  none_fixed = refl;
  name_fixed = refl;
  no_name_fixed = refl;
  one_list_named = refl;
  other_list_named = refl;
  one_list_fixed = refl;
  other_list_fixed = refl;
  nul_before_names = refl;
  nul_in_old = refl;
  nul_in_new = refl;
  nul_before_relocations = refl;
  machine_first = refl;
  machine_of_nothing = refl;
}
