use Rattle.std.proofs.Common.{◌≡◌, ℕ, List, map, take}
use Rattle.std.specs.HashSet.{keys}
use Rattle.elf_image.specs.ImageModel.{entry_model}
use Rattle.elf_edits.specs.Changes.{has_name}
use Rattle.elf_edits.specs.Entries.{needed_names}
use Rattle.elf_edits.specs.Texts.{is_among}
use Rattle.elf_edits.proofs.lookups.needed_set.Given as goal

-- the set has the libraries of the entries so far
abbrev pub invariant-loop-entry : goal.invariant-loop-entry
invariant-loop-entry l = (name : List ℕ) → has_name (keys l.set) name ≡ is_among (needed_names (map entry_model (take l.entry-index l.entries))) name
