use Rattle.std.proofs.Common.{◌≤◌, ◌^◌}
use Rattle.elf_tables.proofs.laid.room_for.Given as goal

-- no more than the bound
abbrev pub invariant-loop-keyed : goal.invariant-loop-keyed
invariant-loop-keyed l = l.room ≤ 2 ^ 25
