use Rattle.std.proofs.Common.{◌≡◌, drop, map}
use Rattle.std.specs.List.{list_any}
use Rattle.elf_edits.specs.EditModel.{edit_model}
use Rattle.elf_image.specs.ImageModel.{entry_model}
use Rattle.elf_notes.specs.Notes.{gives_other_name}
use Rattle.elf_notes.proofs.findings.give_other_name.Given as goal

-- no edit so far gives the file of the entry another name
abbrev pub invariant-loop-edit : goal.invariant-loop-edit
invariant-loop-edit l = list_any (gives_other_name (entry_model l.entry)) (map edit_model (drop l.edit-index l.edits)) ≡ list_any (gives_other_name (entry_model l.entry)) (map edit_model l.edits)
