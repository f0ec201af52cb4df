-- A status that is 0 is that of an ending.
use Rattle.arwen_cli_tools.proofs.EndLaws.{may_be_done}
use Rattle.arwen_cli_tools.proofs.running.run_line.Goals as goal

pub returns-in-Ok-clause-done : goal.returns-in-Ok-clause-done
returns-in-Ok-clause-done g c = λ zero. may_be_done c.args.peer _ c.in-Ok.ending c.in-Ok.ensures (c.shown_status.ensures.done zero)
