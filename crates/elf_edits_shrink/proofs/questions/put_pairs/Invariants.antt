use Rattle.std.proofs.Common.{◌≡◌, ◌++◌, ◌∷◌, [], map, take}
use Rattle.std.specs.List.{flat_map}
use Rattle.elf_edits_shrink.specs.ShrinkModel.{pair_lent}
use Rattle.elf_edits_shrink.proofs.questions.put_pairs.Given as goal

-- a pair for each library so far
abbrev pub invariant-loop-name : goal.invariant-loop-name
invariant-loop-name l = map pair_lent l.made.items ≡ map pair_lent l.initial.made.items ++ flat_map (λ name. (l.directory, name) ∷ []) (map (λ x. x.now) (take l.name-index l.needed))
