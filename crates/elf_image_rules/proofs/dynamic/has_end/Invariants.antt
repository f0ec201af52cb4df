use Rattle.std.proofs.Common.{◌≡◌, ◌-◌}
use Rattle.std.specs.Prelude.{is_some}
use Rattle.elf_format.specs.Memory.{memory_of}
use Rattle.elf_format.specs.Dynamic.{entries_at}
use Rattle.elf_image_rules.proofs.dynamic.has_end.Given as goal

-- no entry so far is the DT_NULL
abbrev pub invariant-loop : goal.invariant-loop
invariant-loop l = is_some (entries_at (l.room - l.counter) l.form (memory_of l.rest) 0) ≡ is_some (entries_at l.room l.form (memory_of l.bytes) 0)
