-- Behind the tool's name stands what is told.
use Rattle.std.proofs.Common.{List, ℕ, subst, sym}
use Rattle.std.proofs.lemmas.Result.{IfOk-weaker}
use Rattle.arwen_cli_tools.specs.Causes.{TellsNames}
use Rattle.arwen_cli_tools.proofs.causes.names_fault_line.Goals as goal

pub returns : goal.returns
returns g c =
    let Tells : List ℕ → Type 0 = TellsNames (g.F.FileBytes.contents c.args.files.now c.args.path.now) c.args.path.now c.args.error in
    IfOk-weaker c.joined.result _ _ (λ line is. (c.as_str.result.now, subst Tells (sym c.as_str.ensures.value) c.in_ok-told.ensures, is)) c.joined.ensures
