use Rattle.std.proofs.Common.{◌≡◌, ◌++◌, drop, map}
use Rattle.command_words.specs.Parts.{texts_lent}
use Rattle.test_cases_files.specs.Words.{unmarked}
use Rattle.test_cases_files.proofs.words.texts_in.Given as goal

-- the texts so far, with those of the words that are left
abbrev pub invariant-loop-word : goal.invariant-loop-word
invariant-loop-word l = map (λ text. text.items) l.texts.items ++ map (map unmarked) (texts_lent (drop l.word-index l.words)) ≡ map (map unmarked) (texts_lent l.words)
