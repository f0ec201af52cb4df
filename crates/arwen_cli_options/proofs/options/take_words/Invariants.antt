use Rattle.std.proofs.Common.{◌≡◌, drop, map}
use Rattle.arwen_cli_options.specs.Options.{given_model, line_from, line_of, ahead, row_model, wants_model}
use Rattle.arwen_cli_options.proofs.options.take_words.Given as goal

-- what was given so far stands before what the words that are left give
abbrev pub invariant-loop-word : goal.invariant-loop-word
invariant-loop-word l =
    ahead (map given_model l.given.items) (line_from (map row_model l.rows) (wants_model l.wants) (map (λ w. w.now) (drop l.word-index l.words)))
    ≡ ahead (map given_model l.initial.given.items) (line_of (map row_model l.rows) (map (λ w. w.now) l.words))
