-- The words that are heard mean what the line does.
use Rattle.std.proofs.Common.{◌≡◌, ◌∙◌, Some, ap}
use Rattle.std.proofs.lemmas.Result.{IfErr-weaker, IfOk-weaker}
use Rattle.arwen_cli.specs.Line.{meaning_of}
use Rattle.arwen_cli.specs.Meaning.{Meaning, shown}
use Rattle.arwen_cli_parser.specs.declared.line_error.LineError.TheVariants.{Memory}
use Rattle.arwen_cli.proofs.Meanings.{texts}
use Rattle.arwen_cli.proofs.Quiet.{heard_for_all}
use Rattle.arwen_cli.proofs.cli.line.read_line.Goals as goal

pub returns-clause-means : goal.returns-clause-means
returns-clause-means c =
    let audible = ap texts c.as_slice.ensures.value ∙ c.in_ok-audible.ensures in
    let heard = ap texts c.as_slice-2.ensures.value ∙ c.in_ok-heard.ensures in
    IfOk-weaker c.parse_audible.result _ _ (λ command means. heard_for_all (λ ws. meaning_of ws ≡ Some (shown command)) (texts c.as_slice-2.result.now) (texts c.as_slice.result.now) (texts c.args.words.now) heard audible means) c.parse_audible.ensures.means

pub returns-clause-refused : goal.returns-clause-refused
returns-clause-refused c =
    let audible = ap texts c.as_slice.ensures.value ∙ c.in_ok-audible.ensures in
    let heard = ap texts c.as_slice-2.ensures.value ∙ c.in_ok-heard.ensures in
    IfErr-weaker c.parse_audible.result _ _ (λ error refused. heard_for_all (λ ws. (meaning : Meaning) → meaning_of ws ≡ Some meaning → error ≡ Memory) (texts c.as_slice-2.result.now) (texts c.as_slice.result.now) (texts c.args.words.now) heard audible refused) c.parse_audible.ensures.refused
