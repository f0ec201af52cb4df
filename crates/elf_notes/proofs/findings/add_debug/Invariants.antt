use Rattle.std.proofs.Common.{◌≡◌, drop, map}
use Rattle.std.specs.List.{list_any}
use Rattle.elf_edits.specs.EditModel.{edit_model}
use Rattle.elf_notes.specs.Notes.{adds_debug}
use Rattle.elf_notes.proofs.findings.add_debug.Given as goal

-- no edit so far adds DT_DEBUG
abbrev pub invariant-loop-edit : goal.invariant-loop-edit
invariant-loop-edit l = list_any adds_debug (map edit_model (drop l.edit-index l.edits)) ≡ list_any adds_debug (map edit_model l.edits)
