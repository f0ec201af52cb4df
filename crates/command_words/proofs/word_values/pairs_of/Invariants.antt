use Rattle.std.proofs.Common.{◌≡◌, length, map, string_bytes}
use Rattle.command_words.specs.WordValues.{text_pair_model}
use Rattle.command_words.proofs.PairLemmas.{IsPairedTo}
use Rattle.command_words.proofs.word_values.pairs_of.Given as goal

abbrev pub invariant-loop-word : goal.invariant-loop-word
invariant-loop-word l = record {
  counted : length l.pairs.items ≡ l.word-index;
  read : IsPairedTo (map string_bytes l.words) l.word-index (map text_pair_model l.pairs.items);
}
