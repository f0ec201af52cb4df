use Rattle.std.proofs.Common.{◌≡◌, ◌≤◌, ◌-◌, ◌*◌}
use Rattle.elf_format.specs.Dynamic.{entries_at}
use Rattle.test_elf_plain.specs.PlainViews.{source_model}
use Rattle.elf_format.proofs.ReadingSteps.{with_front}
use Rattle.test_elf_plain.proofs.entries.entries_from.Given as goal

-- the entries so far, and those of the rest; no place is too far
abbrev pub invariant-loop : goal.invariant-loop
invariant-loop l = record {
  made : with_front l.made.items (entries_at (l.room - l.counter) l.form (source_model l.source) l.place) ≡ entries_at l.room l.form (source_model l.source) 0;
  near : l.place ≤ l.counter * 16;
}
