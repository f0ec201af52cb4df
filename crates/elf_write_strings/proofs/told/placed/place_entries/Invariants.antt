use Rattle.std.proofs.Common.{ℕ, ◌<◌, get_or}
use Rattle.elf_image.specs.declared.dynamic.Dynamic.{Dynamic}
use Rattle.elf_image.specs.ImageModel.{entry_model}
use Rattle.elf_write_strings.specs.PlacedTexts.{TellsEntry}
use Rattle.elf_write_strings.specs.VersionPlaces.{HasMore}
use Rattle.elf_write_strings.proofs.told.placed.place_entries.Given as goal

-- the texts of the entries so far are placed
abbrev pub invariant-loop-i : goal.invariant-loop-i
invariant-loop-i l = record {
  more : HasMore l.initial.table l.table;
  told : (k : ℕ) (d : Dynamic) → k < l.i → TellsEntry l.table (entry_model (get_or l.entries k d));
}
