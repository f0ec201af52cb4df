use Rattle.std.proofs.Common.{◌≡◌, drop, map}
use Rattle.std.specs.List.{list_any}
use Rattle.elf_edits.specs.EditModel.{edit_model}
use Rattle.elf_notes.specs.Notes.{sets_run_path}
use Rattle.elf_notes.proofs.findings.sets_run_path.Given as goal

-- no edit so far sets a run path
abbrev pub invariant-loop-edit : goal.invariant-loop-edit
invariant-loop-edit l = list_any sets_run_path (map edit_model (drop l.edit-index l.edits)) ≡ list_any sets_run_path (map edit_model l.edits)
