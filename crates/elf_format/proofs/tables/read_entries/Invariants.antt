use Rattle.std.proofs.Common.{◌≡◌, ◌-◌}
use Rattle.patch_bytes.specs.Memory.{memory_of}
use Rattle.elf_format.specs.Dynamic.{entries_at}
use Rattle.elf_format.proofs.ReadingSteps.{with_front}
use Rattle.elf_format.proofs.tables.read_entries.Given as goal

-- the entries so far, and those of the rest
abbrev pub invariant-loop : goal.invariant-loop
invariant-loop l = with_front l.made.items (entries_at (l.room - l.counter) l.form (memory_of l.rest) 0) ≡ entries_at l.room l.form (memory_of l.bytes) 0
