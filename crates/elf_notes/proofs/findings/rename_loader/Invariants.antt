use Rattle.std.proofs.Common.{◌≡◌, drop, map}
use Rattle.elf_edits.specs.EditModel.{edit_model}
use Rattle.elf_image.specs.ImageModel.{entry_model}
use Rattle.elf_notes.specs.Notes.{rename_loader}
use Rattle.elf_notes.proofs.findings.rename_loader.Given as goal

-- no entry so far has the name of a loader that an edit gives another one
abbrev pub invariant-loop-entry : goal.invariant-loop-entry
invariant-loop-entry l = rename_loader (map edit_model l.edits) (map entry_model (drop l.entry-index l.entries)) ≡ rename_loader (map edit_model l.edits) (map entry_model l.entries)
