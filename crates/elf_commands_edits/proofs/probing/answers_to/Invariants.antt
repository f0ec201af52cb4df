use Rattle.std.proofs.Common.{◌≡◌, All, map, take}
use Rattle.elf_edits_shrink.specs.ShrinkModel.{answer_model}
use Rattle.elf_edits_shrink.specs.ShrinkModel.{pair_lent}
use Rattle.elf_commands_edits.specs.Shrinking.{IsFound, asked_of}
use Rattle.elf_commands_edits.proofs.probing.answers_to.Given as goal

-- the answers for the pairs that were gone over
abbrev pub invariant-loop-directory : goal.invariant-loop-directory
invariant-loop-directory g l = record {
  asked : map asked_of (map answer_model l.answers.items) ≡ map pair_lent (take l.directory-index l.questions);
  found : All (IsFound (g.P.Probe.may_find l.probe)) (map answer_model l.answers.items);
}
