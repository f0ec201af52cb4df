use Rattle.elf_layout_segments.proofs.ForecastSteps.{AreJoinsBelow}
use Rattle.elf_layout_segments.proofs.forecasts.all_move.Given as goal

abbrev pub invariant-loop-j : goal.invariant-loop-j
invariant-loop-j l = AreJoinsBelow l.firsts l.mirrored l.j l.made.items
