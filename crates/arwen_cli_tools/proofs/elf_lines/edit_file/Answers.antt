-- The plan asks for nothing where no store was opened for it.
use Rattle.arwen_cli_patchelf.specs.Plans.{plan_model}
use Rattle.arwen_cli_tools.proofs.RunLaws.{patched_made}
use Rattle.arwen_cli_tools.proofs.elf_lines.edit_file.Goals as goal

pub returns-in-Ok-None-clause-made : goal.returns-in-Ok-None-clause-made
returns-in-Ok-None-clause-made g c =
    patched_made g.O.Opened.Store.contents (g.P.Probe.may_find c.args.probe.now) (plan_model c.args.plan.now) (g.O.Opens.contents c.args.files.now c.args.path.now) c.in-Ok-None.field-0 c.in-Ok-None.ensures.patched
