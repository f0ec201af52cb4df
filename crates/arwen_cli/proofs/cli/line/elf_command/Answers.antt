-- The values of a command are what its line says, or the error tells what is wrong with them.
use Rattle.std.proofs.Common.{sym, ap, ◌∙◌}
use Rattle.std.specs.Option.{option_map}
use Rattle.std.proofs.lemmas.Result.{IfErr-weaker, IfOk-weaker}
use Rattle.arwen_cli_faults.specs.Meaning.{reading_of}
use Rattle.arwen_cli.proofs.Meanings.{of_memory}
use Rattle.arwen_cli_parser.proofs.Parsing.{some≢none}
use Rattle.arwen_cli.proofs.cli.line.elf_command.Goals as goal

pub returns-in-Ok-clause-means : goal.returns-in-Ok-clause-means
returns-in-Ok-clause-means c =
    IfOk-weaker c.or_usage.result _ _ (λ command is. sym c.in-Ok.ensures.ok ∙ ap (option_map reading_of) is) c.or_usage.ensures.ok

pub returns-in-Ok-clause-refused : goal.returns-in-Ok-clause-refused
returns-in-Ok-clause-refused c =
    IfErr-weaker c.or_usage.result _ _ (λ error none meaning read.
    absurd (some≢none _ (ap (option_map reading_of) (sym none) ∙ c.in-Ok.ensures.ok ∙ read))) c.or_usage.ensures.none

pub returns-in-Err-clause-refused : goal.returns-in-Err-clause-refused
returns-in-Err-clause-refused c meaning read =
    c.no_value.ensures (of_memory _ meaning c.in-Err.error c.in-Err.ensures.err read)
