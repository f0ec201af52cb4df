use Rattle.std.proofs.Common.{◌≡◌, drop, map, option_map, string_bytes}
use Rattle.arwen_cli_options.specs.Asked.{asked_model, last_from, last_of}
use Rattle.arwen_cli_options.specs.Options.{values_of}
use Rattle.arwen_cli_options.proofs.asked.last_option.Given as goal

-- the last of the options that are left, or else of those so far, is the last of all
abbrev pub invariant-loop-option : goal.invariant-loop-option
invariant-loop-option l =
    last_from (option_map (λ option. string_bytes option.now.first) l.last) (values_of l.name (map asked_model (drop l.option-index l.asked))) ≡ last_of l.name (map asked_model l.asked)
