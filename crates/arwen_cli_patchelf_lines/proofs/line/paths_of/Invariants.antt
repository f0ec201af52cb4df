use Rattle.std.proofs.Common.{◌≡◌, ◌++◌, codes, drop, map, string_bytes}
use Rattle.arwen_cli_options.specs.Options.{given_model, values_of}
use Rattle.arwen_cli_patchelf_lines.proofs.line.paths_of.Given as goal

-- the paths so far, with those that are left
abbrev pub invariant-loop-one : goal.invariant-loop-one
invariant-loop-one l =
    map string_bytes l.paths.items ++ values_of (codes "FILE") (map given_model (drop l.one-index l.given)) ≡ values_of (codes "FILE") (map given_model l.given)
