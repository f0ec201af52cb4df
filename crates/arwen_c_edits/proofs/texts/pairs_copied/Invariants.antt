use Rattle.arwen_c_edits.proofs.TextSteps.{ArePairsTo}
use Rattle.arwen_c_edits.proofs.texts.pairs_copied.Given as goal

abbrev pub invariant-loop-index : goal.invariant-loop-index
invariant-loop-index l = ArePairsTo l.texts l.index l.copies.items
