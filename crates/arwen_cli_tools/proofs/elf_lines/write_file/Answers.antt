-- The file that was created holds what the plan makes, or an error has its cause.
use Rattle.arwen_cli_patchelf.specs.Plans.{plan_model}
use Rattle.arwen_cli_tools.proofs.RunLaws.{held_made}
use Rattle.arwen_cli_tools.proofs.elf_lines.write_file.Goals as goal

pub returns-in-Ok-clause-made : goal.returns-in-Ok-clause-made
returns-in-Ok-clause-made g c =
    held_made g.C.Creates.is_new (g.P.Probe.may_find c.args.probe.now) (plan_model c.args.plan.now) (g.F.Opens.contents c.args.files.now c.args.path.now) _ c.in-Ok.ensures.written

pub returns-clause-cause : goal.returns-clause-cause
returns-clause-cause g c = rw c.error_in.ensures (c.in-Err.refused.store, c.in-Err.refused.error.file, c.in-Err.ensures.cause)
