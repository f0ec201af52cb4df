use Rattle.std.proofs.Common.{drop, map}
use Rattle.command_words.specs.Parts.{texts_lent}
use Rattle.test_cases_files.proofs.TextLaws.{AreTextsSoFar}
use Rattle.test_cases_files.proofs.words.lent_texts.Given as goal

-- the words so far, with any texts of what is left behind them, are texts of all
abbrev pub invariant-loop-text : goal.invariant-loop-text
invariant-loop-text l = AreTextsSoFar (map (λ text. text.items) l.texts) (map (λ text. text.items) (drop l.text-index l.texts)) (texts_lent l.words.items)
