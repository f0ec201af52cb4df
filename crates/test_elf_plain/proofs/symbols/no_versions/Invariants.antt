use Rattle.std.proofs.Common.{◌≡◌, None, replicate}
use Rattle.test_elf_plain.proofs.symbols.no_versions.Given as goal

abbrev pub invariant-loop : goal.invariant-loop
invariant-loop l = l.made.items ≡ replicate l.counter None
