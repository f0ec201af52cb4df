-- What is told of the file goes to one writer, or why nothing is to the other.
use Rattle.std.proofs.Common.{List, ℕ, sym, subst}
use Rattle.arwen_cli_show.specs.Command.{Telling, TellingAt}
use Rattle.arwen_cli_show.specs.Shown.{TellsFile}
use Rattle.arwen_cli_show.proofs.ShownSteps.{ok_line, ok_text}
use Rattle.arwen_cli_show.proofs.command.show_path.Goals as goal

pub returns-in-Ok-clause-told : goal.returns-in-Ok-clause-told
returns-in-Ok-clause-told g c =
    let IsAt : List ℕ → Telling → Type 0 = TellingAt (g.F.FileBytes.may_fail c.args.files.now) (g.F.FileBytes.contents c.args.files.now) c.args.style in
    let P : List ℕ → Type 0 = TellsFile c.args.style c.args.path.now (g.F.FileBytes.contents c.args.files.now c.args.path.now) in
    ok_text IsAt c.write_text.result c.args.path.now c.as_str.result.now (g.W.Write.contents c.args.out.now) (g.W.Write.contents c.write_text.new.out) (g.E.Write.contents c.args.err.now)
    c.write_text.ensures.told c.write_text.ensures.text (subst P (sym c.as_str.ensures.value) c.in-Ok.ensures.told)

pub returns-in-Err-clause-told : goal.returns-in-Err-clause-told
returns-in-Err-clause-told g c =
    let IsAt : List ℕ → Telling → Type 0 = TellingAt (g.F.FileBytes.may_fail c.args.files.now) (g.F.FileBytes.contents c.args.files.now) c.args.style in
    ok_line IsAt c.write_refusal.result c.args.path.now c.in-Err.refusal (g.W.Write.contents c.args.out.now) (g.E.Write.contents c.args.err.now) (g.E.Write.contents c.write_refusal.new.err)
    c.write_refusal.ensures.told c.write_refusal.ensures.line (λ line is. (c.in-Err.refusal, c.in-Err.ensures.refused, is))
