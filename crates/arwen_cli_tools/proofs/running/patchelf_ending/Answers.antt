-- The line was read, and run.
use Rattle.std.proofs.Common.{inr}
use Rattle.std.proofs.lemmas.Result.{IfOk-weaker}
use Rattle.arwen_cli_tools.proofs.running.patchelf_ending.Goals as goal

pub returns-in-Ok : goal.returns-in-Ok
returns-in-Ok g c =
    IfOk-weaker c.run_patchelf.result _ _ (λ ending ends. inr (c.in-Ok.line, c.in-Ok.ensures.reads, ends)) c.run_patchelf.ensures
