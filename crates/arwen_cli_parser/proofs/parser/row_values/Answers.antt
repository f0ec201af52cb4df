-- The values that were read are those of the command that was found.
use Rattle.std.proofs.Common.{sym, ap, ◌∙◌}
use Rattle.std.specs.Option.{option_map}
use Rattle.std.proofs.lemmas.Result.{IfErr-weaker, IfOk-weaker}
use Rattle.arwen_cli_parser.specs.Parser.{taken_model}
use Rattle.arwen_cli_parser.proofs.Parsing.{some≢none}
use Rattle.arwen_cli_parser.proofs.parser.row_values.Goals as goal

pub returns-clause-taken : goal.returns-clause-taken
returns-clause-taken c =
    IfOk-weaker c.or_usage.result _ _ (λ taken is. sym c.in_ok-taken.ensures ∙ ap (option_map taken_model) is) c.or_usage.ensures.ok

pub returns-clause-refused : goal.returns-clause-refused
returns-clause-refused c =
    IfErr-weaker c.or_usage.result _ _ (λ error none taken t. absurd (some≢none taken (sym (sym c.in_ok-taken.ensures ∙ ap (option_map taken_model) none) ∙ t))) c.or_usage.ensures.none
