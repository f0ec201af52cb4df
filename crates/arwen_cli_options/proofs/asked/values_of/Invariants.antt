use Rattle.std.proofs.Common.{◌≡◌, ◌++◌, drop, map}
use Rattle.arwen_cli_options.specs.Asked.{asked_model}
use Rattle.arwen_cli_options.specs.Options.{values_of}
use Rattle.arwen_cli_options.proofs.asked.values_of.Given as goal

-- the values so far, with those of the options that are left
abbrev pub invariant-loop-option : goal.invariant-loop-option
invariant-loop-option l =
    map (λ value. value.items) l.values.items ++ values_of l.name (map asked_model (drop l.option-index l.asked)) ≡ values_of l.name (map asked_model l.asked)
