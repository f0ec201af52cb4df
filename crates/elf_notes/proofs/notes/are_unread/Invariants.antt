use Rattle.std.proofs.Common.{◌≡◌, drop, map}
use Rattle.std.specs.List.{list_any}
use Rattle.elf_image.specs.ImageModel.{section_model}
use Rattle.elf_notes.specs.Notes.{is_unread}
use Rattle.elf_notes.proofs.notes.are_unread.Given as goal

-- no section so far is one that isn't read
abbrev pub invariant-loop-section : goal.invariant-loop-section
invariant-loop-section l = list_any is_unread (map section_model (drop l.section-index l.sections)) ≡ list_any is_unread (map section_model l.sections)
