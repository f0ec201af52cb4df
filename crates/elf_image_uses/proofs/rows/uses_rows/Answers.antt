-- Each row is computed.
use Rattle.std.proofs.Common.{refl}
use Rattle.patch_bytes.specs.Memory.{bytes_at, number_in}
use Rattle.patch_bytes.specs.Number.{number_at}
use Rattle.elf_format.specs.Form.{records}
use Rattle.elf_format.specs.Hashes.{gnu_header}
use Rattle.elf_format.specs.Records.{relocation}
use Rattle.elf_image_uses.proofs.rows.uses_rows.Goals as goal

pub returns : goal.returns
unfolding bytes_at number_in number_at records gnu_header relocation lib.Count.ones
returns c = record {
  hashes = record { gabi_whole = refl; gabi_cut = refl; gabi_without_chains = refl; gabi_without_buckets = refl; gabi_empty = refl; gabi_with_long_entries = refl; gabi_high_first = refl; gnu_whole = refl; gnu_cut = refl; gnu_narrow = refl; gnu_without_buckets = refl; gnu_without_filter = refl; gnu_of_three_words = refl; gnu_of_two_words = refl; gnu_greatest_shift = refl; gnu_past_shift = refl; gnu_without_header = refl };
  users = record { null_links = refl; group_links = refl; group_links_elsewhere = refl; versions_link = refl; nothing_links = refl; table_cut = refl; group_goes = refl; by_number = refl };
  relocations = record { named = refl; not_named = refl; of_another_table = refl; of_no_table = refl; symbol_zero = refl; opaque = refl; gone = refl };
  sections = record { free = refl; first = refl; symbols_last = refl; strings_last = refl; names_last = refl; linked = refl; both_go = refl; relocated_by = refl; marked = refl; unmarked = refl; null_names = refl; defined = refl; defined_by_the_first = refl };
  along = record { defined = refl; with_their_table = refl; held = refl; deserted = refl; of_both = refl; empty = refl; loaded = refl; dynamic = refl; interpreter_goes = refl; interpreter_stays = refl };
}
