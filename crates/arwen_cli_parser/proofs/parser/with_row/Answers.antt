-- The parser adds a command as it is.
use Rattle.std.proofs.Common.{refl}
use Rattle.std.proofs.lemmas.Result.{IfOk-weaker}
use Rattle.arwen_cli_parser.proofs.Parsing.{added}
use Rattle.arwen_cli_parser.proofs.parser.with_row.Goals as goal

pub returns : goal.returns
returns c =
    IfOk-weaker c.subcommand.result _ _ (λ new adds. added c.args.line _ new _ _ refl c.in_ok-command.ensures.app c.in_ok-command.ensures.local adds) c.subcommand.ensures
