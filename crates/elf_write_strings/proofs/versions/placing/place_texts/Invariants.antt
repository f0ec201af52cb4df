use Rattle.std.proofs.Common.{ℕ, ◌<◌, List, get_or}
use Rattle.patch_bytes.specs.ByteString.{bytes_of_each}
use Rattle.elf_write_strings.specs.VersionPlaces.{HasMore, Tells}
use Rattle.elf_write_strings.proofs.versions.placing.place_texts.Given as goal

-- the texts so far are placed
abbrev pub invariant-loop-i : goal.invariant-loop-i
invariant-loop-i l = record {
  more : HasMore l.initial.table l.table;
  told : (k : ℕ) (d : List ℕ) → k < l.i → Tells l.table (get_or (bytes_of_each l.texts) k d);
}
