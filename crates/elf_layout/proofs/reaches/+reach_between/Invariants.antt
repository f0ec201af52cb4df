use Rattle.std.proofs.Common.{◌-◌}
use Rattle.elf_layout.proofs.reaches.+reach_between.Given as goal

abbrev pub decreases-reach_between : goal.decreases-reach_between
decreases-reach_between l = l.high - l.low
