use Rattle.std.proofs.Common.{◌≡◌, ◌≤◌, ◌+◌, ◌-◌, ◌*◌, ◌^◌}
use Rattle.elf_format.specs.Answers.{chain}
use Rattle.elf_format.proofs.ReadingSteps.{with_front}
use Rattle.test_elf_plain.specs.PlainViews.{source_model}
use Rattle.test_elf_plain.proofs.chains.read_chain.Given as goal

-- what was read so far, and what the rest of the chain gives; no place is too far
abbrev pub invariant-loop-i : goal.invariant-loop-i
invariant-loop-i g l = record {
  made : with_front l.made.items (chain (g.T.Chained.step l.form (source_model l.source)) (l.count - l.i) l.place) ≡ chain (g.T.Chained.step l.form (source_model l.source)) l.count l.start;
  near : l.place ≤ l.start + l.i * 2 ^ 32;
}
