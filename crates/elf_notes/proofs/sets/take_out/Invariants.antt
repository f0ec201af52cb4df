use Rattle.std.proofs.Common.{◌≡◌, ℕ, List, map, take, not}
use Rattle.std.specs.Prelude.{◌&&◌}
use Rattle.std.specs.HashSet.{keys}
use Rattle.elf_edits.specs.Changes.{has_name}
use Rattle.elf_edits.specs.Texts.{is_among}
use Rattle.elf_notes.proofs.sets.take_out.Given as goal

-- the set is without the names so far
abbrev pub invariant-loop-name : goal.invariant-loop-name
invariant-loop-name l = (name : List ℕ) → has_name (keys l.set) name ≡ (has_name (keys l.initial.set) name && not (is_among (map (λ n. n.now) (take l.name-index l.names)) name))
