use Rattle.std.proofs.Common.{◌≡◌, drop, map}
use Rattle.arwen_cli_options.specs.Options.{given_model}
use Rattle.arwen_cli_patchelf_lines.specs.Refusals.{absent_among}
use Rattle.arwen_cli_patchelf_lines.proofs.refusals.absent_in.Given as goal

-- none so far is absent
abbrev pub invariant-loop-one : goal.invariant-loop-one
invariant-loop-one l = absent_among (map given_model (drop l.one-index l.given)) ≡ absent_among (map given_model l.given)
