use Rattle.std.proofs.Common.{◌≡◌, ◌++◌, drop, map}
use Rattle.elf_edits.specs.EditModel.{edit_model}
use Rattle.elf_notes.specs.Notes.{entries_asked}
use Rattle.elf_notes.proofs.names.entries_asked_in.Given as goal

-- the names so far, with those of the edits that are left
abbrev pub invariant-loop-edit : goal.invariant-loop-edit
invariant-loop-edit l = map (λ n. n.now) l.names.items ++ entries_asked (map edit_model (drop l.edit-index l.edits)) ≡ entries_asked (map edit_model l.edits)
