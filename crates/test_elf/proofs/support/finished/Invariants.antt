use Rattle.elf_tables.specs.Strings.{HoldNoNul}
use Rattle.test_elf.proofs.support.finished.Given as goal

-- no text so far has a NUL
abbrev pub invariant-loop-text : goal.invariant-loop-text
invariant-loop-text g l = HoldNoNul l.table
