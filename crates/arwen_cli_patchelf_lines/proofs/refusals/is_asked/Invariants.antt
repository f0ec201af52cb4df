use Rattle.std.proofs.Common.{◌≡◌, drop, map}
use Rattle.arwen_cli_options.specs.Options.{given_model}
use Rattle.arwen_cli_patchelf_lines.specs.Refusals.{is_asked}
use Rattle.arwen_cli_patchelf_lines.proofs.refusals.is_asked.Given as goal

-- none so far has the name
abbrev pub invariant-loop-one : goal.invariant-loop-one
invariant-loop-one l = is_asked l.name (map given_model (drop l.one-index l.given)) ≡ is_asked l.name (map given_model l.given)
