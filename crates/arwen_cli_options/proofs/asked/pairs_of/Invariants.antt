use Rattle.std.proofs.Common.{◌≡◌, ◌++◌, drop, map}
use Rattle.arwen_cli_options.specs.Asked.{asked_model, pair_lent, pairs_of}
use Rattle.arwen_cli_options.proofs.asked.pairs_of.Given as goal

-- the pairs so far, with those of the options that are left
abbrev pub invariant-loop-option : goal.invariant-loop-option
invariant-loop-option l =
    map pair_lent l.pairs.items ++ pairs_of l.name (map asked_model (drop l.option-index l.asked)) ≡ pairs_of l.name (map asked_model l.asked)
