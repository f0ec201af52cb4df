use Rattle.std.proofs.Common.{◌≡◌, drop, map}
use Rattle.arwen_cli_options.specs.Asked.{asked_model, is_given}
use Rattle.arwen_cli_options.proofs.asked.is_given.Given as goal

-- none so far has the name
abbrev pub invariant-loop-option : goal.invariant-loop-option
invariant-loop-option l = is_given l.name (map asked_model (drop l.option-index l.asked)) ≡ is_given l.name (map asked_model l.asked)
