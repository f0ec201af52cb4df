use Rattle.std.proofs.Common.{◌≤◌}
use Rattle.arwen_c.proofs.WordSteps.{AreWordsTo}
use Rattle.arwen_c.proofs.words.words_of.Given as goal

abbrev pub invariant-loop-index : goal.invariant-loop-index
invariant-loop-index l = record {
  words : AreWordsTo l.texts l.index l.group l.words.items;
  few : l.group ≤ l.index;
}
