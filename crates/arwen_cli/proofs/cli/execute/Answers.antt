-- A line that isn't read fails as it may.
use Rattle.std.proofs.Common.{List, Bor, map}
use Rattle.std.proofs.lemmas.Result.{err_from_is_err_and}
use Rattle.command_words.specs.Rows.{Text}
use Rattle.arwen_cli.specs.Line.{meaning_of}
use Rattle.arwen_cli.proofs.Meanings.{line_fails}
use Rattle.arwen_cli.proofs.cli.execute.Goals as goal

pub returns-in_err-command-clause-err : goal.returns-in_err-command-clause-err
returns-in_err-command-clause-err g c =
    let words : List Text = map (λ (w : Bor Text). w.now) c.args.words.now in
    let p = err_from_is_err_and c.from_residual.result c.from_residual.ensures.1 in
    rw (p.1, p.2) (λ plain. line_fails (meaning_of words) c.in_err-command.field-0.0 c.in_err-command.ensures.err (c.in_err-command.ensures.refused plain))
