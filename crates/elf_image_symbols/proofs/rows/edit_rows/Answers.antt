-- Each row is computed.
use Rattle.std.proofs.Common.{refl}
use Rattle.elf_format.specs.Image.{counted}
use Rattle.elf_image_symbols.specs.Changes.{symbol_now}
use Rattle.elf_image_symbols.proofs.rows.edit_rows.Goals as goal

pub returns : goal.returns
unfolding counted symbol_now
returns c = record {
  none = refl;
  two_renamed = refl;
  two_gone = refl;
  gone_by_number = refl;
  gone_twice = refl;
  without_versions = refl;
  shown = refl;
  shown_without = refl;
  told_of_each = refl;
  shown_spread = refl;
}
