use Rattle.std.proofs.Common.{◌≡◌, ◌++◌, drop}
use Rattle.byte_store.specs.Gaps.{gaps_from}
use Rattle.byte_store.proofs.gaps.gaps_between.Given as goal

abbrev pub invariant-loop-span : goal.invariant-loop-span
invariant-loop-span l = l.gaps.items ++ gaps_from l.size l.at (drop l.span-index l.spans) ≡ gaps_from l.size 0 l.spans
