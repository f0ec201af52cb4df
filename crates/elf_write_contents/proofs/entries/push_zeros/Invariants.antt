use Rattle.std.proofs.Common.{◌≡◌, ◌++◌, replicate}
use Rattle.elf_write_contents.proofs.entries.push_zeros.Given as goal

-- the zeros so far
abbrev pub invariant-loop : goal.invariant-loop
invariant-loop l = l.bytes.items ≡ l.initial.bytes.items ++ replicate l.counter 0
