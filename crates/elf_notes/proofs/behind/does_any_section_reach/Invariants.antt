use Rattle.std.proofs.Common.{◌≡◌, drop, map}
use Rattle.std.specs.List.{list_any}
use Rattle.elf_image.specs.ImageModel.{section_model}
use Rattle.elf_notes.specs.Notes.{does_section_reach}
use Rattle.elf_notes.proofs.behind.does_any_section_reach.Given as goal

-- no section so far reaches the end of the file
abbrev pub invariant-loop-section : goal.invariant-loop-section
invariant-loop-section l = list_any (does_section_reach l.file_end) (map section_model (drop l.section-index l.sections)) ≡ list_any (does_section_reach l.file_end) (map section_model l.sections)
