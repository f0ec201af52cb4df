use Rattle.std.proofs.Common.{◌≡◌, filter, map, not, take}
use Rattle.std.specs.HashSet.{keys}
use Rattle.elf_format.specs.declared.constants.TheConstants.{DT_NEEDED}
use Rattle.elf_image.specs.Dynamic.{Text}
use Rattle.elf_image.specs.ImageModel.{entry_model}
use Rattle.elf_edits.specs.Changes.{has_name}
use Rattle.elf_edits.specs.TextModel.{texts_model}
use Rattle.elf_edits.proofs.list.entries_for_new.Given as goal

-- an entry for each name so far that is not in the set
abbrev pub invariant-loop-name : goal.invariant-loop-name
invariant-loop-name l = map entry_model l.made.items ≡ map (Text DT_NEEDED) (filter (λ name. not (has_name (keys l.set) name)) (texts_model (take l.name-index l.names)))
