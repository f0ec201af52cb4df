use Rattle.std.proofs.Common.{◌≤◌, length}
use Rattle.macho_commands_stores.proofs.verdict.push_directories.Given as goal

abbrev pub invariant-loop-number : goal.invariant-loop-number
invariant-loop-number l = l.at ≤ length l.unfit
