use Rattle.std.proofs.Common.{◌≡◌, map, take}
use Rattle.elf_image.specs.ImageModel.{entry_model}
use Rattle.elf_edits.specs.Entries.{needed_names}
use Rattle.elf_edits_shrink.proofs.questions.needed_names.Given as goal

-- the names of the entries so far
abbrev pub invariant-loop-entry : goal.invariant-loop-entry
invariant-loop-entry l = map (λ x. x.now) l.names.items ≡ needed_names (map entry_model (take l.entry-index l.entries))
