-- Words that mean no command name no file.
use Rattle.std.proofs.Common.{List, Bor, map, sym, ◌∙◌}
use Rattle.command_words.specs.Rows.{Text}
use Rattle.arwen_cli.specs.Line.{meaning_of}
use Rattle.arwen_cli.proofs.FaultLines.{of_unread}
use Rattle.arwen_cli.proofs.cli.telling.fault_line.Goals as goal

pub returns-in-Err : goal.returns-in-Err
returns-in-Err g c =
    let words : List Text = map (λ (w : Bor Text). w.now) c.args.words.now in
    of_unread (g.F.FileBytes.contents c.args.files.now) c.args.error.now (meaning_of words) c.unread_line.result (sym c.is_of_line.ensures ∙ c.if-is_of_line.false) c.in-Err.ensures.refused c.unread_line.ensures.means c.unread_line.ensures.line
