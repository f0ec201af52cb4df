use Rattle.std.proofs.Common.{◌≡◌, map, string_bytes, take}
use Rattle.arwen_cli_patchelf.specs.OptionEdits.{planned_model}
use Rattle.arwen_cli_patchelf.proofs.plans.options_of.Given as goal

-- the options so far
abbrev pub invariant-loop-one : goal.invariant-loop-one
invariant-loop-one l = map string_bytes l.options.items ≡ map (λ one. one.option) (map planned_model (take l.one-index l.planned))
