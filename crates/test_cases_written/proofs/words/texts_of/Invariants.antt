use Rattle.std.proofs.Common.{◌≡◌, map}
use Rattle.test_cases_written.proofs.words.texts_of.Given as goal

-- the texts have the bytes of the words that were yielded
abbrev pub invariant-loop-word : goal.invariant-loop-word
invariant-loop-word l = map (λ text. text.items) l.texts.items ≡ map (λ word. word.now) l.yielded
