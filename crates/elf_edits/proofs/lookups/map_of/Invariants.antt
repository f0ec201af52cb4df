use Rattle.std.proofs.Common.{◌≡◌, ℕ, List, take}
use Rattle.elf_edits.specs.Changes.{name_for}
use Rattle.elf_edits.specs.TextModel.{pairs_model}
use Rattle.elf_edits.specs.Texts.{value_of}
use Rattle.elf_edits.proofs.lookups.map_of.Given as goal

-- the map has the last of the pairs so far for each name
abbrev pub invariant-loop-old : goal.invariant-loop-old
invariant-loop-old l = (name : List ℕ) → name_for l.made.entries name ≡ value_of (pairs_model (take l.old-index l.pairs)) name
