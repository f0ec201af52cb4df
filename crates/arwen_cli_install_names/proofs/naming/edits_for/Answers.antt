-- The file that was read is that of the bytes.
use Rattle.std.proofs.Common.{map, ◌∙◌}
use Rattle.std.proofs.lemmas.Result.{IfErr-weaker}
use Rattle.arwen_cli_options.specs.Options.{given_model}
use Rattle.arwen_cli_install_names.proofs.CallLaws.{unnamed}
use Rattle.arwen_cli_install_names.proofs.naming.edits_for.Goals as goal

pub returns-clause-err : goal.returns-clause-err
returns-clause-err c =
    IfErr-weaker c.edits_in-edits.result _ _ (λ fault tells.
    unnamed (map given_model c.args.given.now) c.args.bytes.now c.inner.result.now fault c.in_ok-file.ensures.0 (c.inner.ensures ∙ c.in_ok-file.ensures.1) tells) c.edits_in-edits.ensures.err
