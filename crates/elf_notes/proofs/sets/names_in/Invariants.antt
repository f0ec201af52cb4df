use Rattle.std.proofs.Common.{◌≡◌, ◌++◌, drop, filter, map}
use Rattle.std.specs.HashSet.{keys}
use Rattle.elf_edits.specs.Changes.{has_name}
use Rattle.elf_notes.proofs.sets.names_in.Given as goal

-- the names so far, with those that are left
abbrev pub invariant-loop-name : goal.invariant-loop-name
invariant-loop-name l =
    map (λ n. n.now) l.found.items ++ filter (has_name (keys l.set)) (map (λ n. n.now) (drop l.name-index l.names))
    ≡ filter (has_name (keys l.set)) (map (λ n. n.now) l.names)
