use Rattle.std.proofs.Common.{◌≡◌, ◌++◌, map, take}
use Rattle.elf_edits_shrink.specs.Questions.{pairs_of}
use Rattle.elf_edits_shrink.specs.ShrinkModel.{pair_lent}
use Rattle.elf_edits_shrink.proofs.questions.put_all_pairs.Given as goal

-- the pairs of the directories so far
abbrev pub invariant-loop-directory : goal.invariant-loop-directory
invariant-loop-directory l = map pair_lent l.made.items ≡ map pair_lent l.initial.made.items ++ pairs_of (map (λ x. x.now) l.needed) (map (λ x. x.now) (take l.directory-index l.directories))
