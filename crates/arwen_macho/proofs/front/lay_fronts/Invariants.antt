use Rattle.std.proofs.Common.{◌≡◌, length, vec_len}
use Rattle.std.specs.List.{All}
use Rattle.arwen_macho.specs.Fronts.{LiesIn, fronts_on}
use Rattle.arwen_macho.proofs.front.lay_fronts.Given as goal

abbrev pub invariant-loop-front : goal.invariant-loop-front
invariant-loop-front l = record {
  same : fronts_on l.fronts.items l.bytes ≡ fronts_on l.initial.fronts.items l.initial.bytes;
  inside : All (LiesIn (length l.initial.bytes)) l.fronts.items;
}

abbrev pub decreases-loop-front : goal.decreases-loop-front
decreases-loop-front l = vec_len l.fronts
