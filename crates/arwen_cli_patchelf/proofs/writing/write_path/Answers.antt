-- The store that was opened is the one at the path.
use Rattle.elf_commands.specs.Counted.{sink_failures, sink_inner}
use Rattle.arwen_cli_patchelf.specs.Plans.{plan_model}
use Rattle.arwen_cli_patchelf.proofs.OutputLaws.{output_cause_at}
use Rattle.arwen_cli_patchelf.proofs.writing.write_path.Goals as goal

pub returns-in-Err-write_store-clause-cause : goal.returns-in-Err-write_store-clause-cause
returns-in-Err-write_store-clause-cause g c =
    output_cause_at g.O.Opened.Store.may_fail_read (g.C.Creates.may_fail c.args.files.now c.args.output.now) g.C.Creates.is_new g.C.Created.Write.contents sink_inner sink_failures
    (g.P.Probe.may_find c.args.probe.now) (plan_model c.args.plan.now) (g.O.OpensOnce.contents c.args.source c.args.path.now) _ _ _ c.in-Err-write_store.error.error c.in-Err-write_store.error.file
    c.in-Ok.ensures.bytes c.in-Ok.ensures.fresh c.in-Err-write_store.ensures.cause
