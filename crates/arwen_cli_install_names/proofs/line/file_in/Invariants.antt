use Rattle.std.proofs.Common.{◌≡◌, codes, drop, map}
use Rattle.arwen_cli_options.specs.Options.{given_model, values_of}
use Rattle.arwen_cli_install_names.proofs.NameLaws.{with_found}
use Rattle.arwen_cli_install_names.proofs.line.file_in.Given as goal

-- the file so far, with those that are left
abbrev pub invariant-loop-one : goal.invariant-loop-one
invariant-loop-one l =
    with_found l.found (values_of (codes "FILE") (map given_model (drop l.one-index l.given))) ≡ values_of (codes "FILE") (map given_model l.given)
