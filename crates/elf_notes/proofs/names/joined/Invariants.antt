use Rattle.std.proofs.Common.{◌≡◌, ◌++◌, drop, map}
use Rattle.elf_notes.proofs.names.joined.Given as goal

-- the names so far, with those of the second list that are left
abbrev pub invariant-loop-name : goal.invariant-loop-name
invariant-loop-name l = map (λ n. n.now) l.names.items ++ map (λ n. n.now) (drop l.name-index l.second) ≡ map (λ n. n.now) l.initial.names.items ++ map (λ n. n.now) l.second
