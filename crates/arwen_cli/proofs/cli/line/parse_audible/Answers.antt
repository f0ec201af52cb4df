-- A line in which no word begins with a hyphen has no leave.
use Rattle.std.proofs.Common.{◌∙◌, sym, true≢false}
use Rattle.std.proofs.lemmas.Result.{err_from_is_err_and}
use Rattle.arwen_cli.proofs.Meanings.{texts}
use Rattle.arwen_cli.proofs.Quiet.{unmoved}
use Rattle.arwen_cli.proofs.cli.line.parse_audible.Goals as goal

pub returns-then-is_moved_by-clause-means : goal.returns-then-is_moved_by-clause-means
returns-then-is_moved_by-clause-means c = λ plain. absurd (true≢false (sym c.if-is_moved_by.true ∙ c.is_moved_by.ensures ∙ unmoved (texts c.args.words.now) plain))

pub returns-in_err-parse_moving-clause-refused : goal.returns-in_err-parse_moving-clause-refused
returns-in_err-parse_moving-clause-refused c =
    let p = err_from_is_err_and c.from_residual.result c.from_residual.ensures.1 in
    rw p.1 (λ plain meaning means. absurd (true≢false (sym c.if-is_moved_by.true ∙ c.is_moved_by.ensures ∙ unmoved (texts c.args.words.now) plain)))
