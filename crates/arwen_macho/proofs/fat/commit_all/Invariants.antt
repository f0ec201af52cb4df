use Rattle.std.proofs.Common.{vec_len}
use Rattle.arwen_macho.proofs.CommitLaws.{Carried}
use Rattle.arwen_macho.proofs.fat.commit_all.Given as goal

abbrev pub invariant-loop-change : goal.invariant-loop-change
invariant-loop-change l = Carried l.initial.slices l.initial.changes.items l.initial.copy l.changes.items l.slices l.copy

abbrev pub decreases-loop-change : goal.decreases-loop-change
decreases-loop-change l = vec_len l.changes
