use Rattle.std.proofs.Common.{◌-◌}
use Rattle.elf_layout_plan.specs.Plan.{most_added}
use Rattle.elf_layout_segments.specs.Forecasts.{IsForecast}
use Rattle.elf_layout_reasons.proofs.RoundsEnd.{AreBefore}
use Rattle.elf_layout_reasons.proofs.rounds.stuck_count.Given as goal

abbrev pub invariant-loop-known : goal.invariant-loop-known
invariant-loop-known l = record {
  before : AreBefore l.r l.looked;
  known : IsForecast l.r l.known;
}

abbrev pub decreases-loop-known : goal.decreases-loop-known
decreases-loop-known l = most_added l.r.image - l.looked
