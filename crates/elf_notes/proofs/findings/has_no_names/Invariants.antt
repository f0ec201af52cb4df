use Rattle.std.proofs.Common.{◌≡◌, drop, map}
use Rattle.std.specs.List.{list_any}
use Rattle.elf_edits.specs.EditModel.{edit_model}
use Rattle.elf_notes.specs.Notes.{has_no_names}
use Rattle.elf_notes.proofs.findings.has_no_names.Given as goal

-- no edit so far lacks names
abbrev pub invariant-loop-edit : goal.invariant-loop-edit
invariant-loop-edit l = list_any has_no_names (map edit_model (drop l.edit-index l.edits)) ≡ list_any has_no_names (map edit_model l.edits)
