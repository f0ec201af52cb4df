use Rattle.std.proofs.Common.{◌≡◌, drop, map}
use Rattle.std.specs.List.{list_any}
use Rattle.elf_edits.specs.EditModel.{edit_model}
use Rattle.elf_notes.specs.Notes.{has_no_pairs}
use Rattle.elf_notes.proofs.findings.has_no_pairs.Given as goal

-- no edit so far lacks pairs
abbrev pub invariant-loop-edit : goal.invariant-loop-edit
invariant-loop-edit l = list_any has_no_pairs (map edit_model (drop l.edit-index l.edits)) ≡ list_any has_no_pairs (map edit_model l.edits)
