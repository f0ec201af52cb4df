use Rattle.std.proofs.Common.{◌≡◌, ◌++◌, drop, map}
use Rattle.elf_edits.specs.EditModel.{pairs_model}
use Rattle.elf_notes.proofs.names.push_new.Given as goal

-- the names so far, with those of the pairs that are left
abbrev pub invariant-loop-pair : goal.invariant-loop-pair
invariant-loop-pair l = map (λ n. n.now) l.names.items ++ map (λ pair. pair.1) (pairs_model (drop l.pair-index l.pairs))
    ≡ map (λ n. n.now) l.initial.names.items ++ map (λ pair. pair.1) (pairs_model l.pairs)
