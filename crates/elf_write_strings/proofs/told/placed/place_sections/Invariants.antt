use Rattle.std.proofs.Common.{ℕ, ◌<◌, get_or}
use Rattle.elf_image.specs.declared.section.Section.{Section}
use Rattle.elf_image.specs.ImageModel.{section_model}
use Rattle.elf_write_strings.specs.VersionPlaces.{HasMore, Tells}
use Rattle.elf_write_strings.proofs.told.placed.place_sections.Given as goal

-- the texts of the sections so far are placed
abbrev pub invariant-loop-i : goal.invariant-loop-i
invariant-loop-i l = record {
  more : HasMore l.initial.table l.table;
  told : (k : ℕ) (d : Section) → k < l.i → Tells l.table (section_model (get_or l.sections k d)).name;
}
