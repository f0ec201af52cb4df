-- The bytes that are written are those that the plan makes.
use Rattle.std.proofs.lemmas.Result.{IfErr-weaker, IfOk-weaker}
use Rattle.elf_commands.specs.Counted.{sink_failures, sink_inner}
use Rattle.elf_commands.specs.Failures.{HasReadCause}
use Rattle.arwen_cli_patchelf.specs.Plans.{plan_model}
use Rattle.arwen_cli_patchelf.proofs.OutputLaws.{cut_off_cause, cut_off_tells, holds_made}
use Rattle.arwen_cli_patchelf.proofs.writing.write_store.Goals as goal

pub returns-in-Ok-clause-written : goal.returns-in-Ok-clause-written
returns-in-Ok-clause-written g c =
    IfOk-weaker c.write_new.result _ _ (λ file holds.
    holds_made g.C.Creates.is_new (g.P.Probe.may_find c.args.probe.now) (plan_model c.args.plan.now) (g.S.Store.contents c.args.store.now) (g.C.Created.Write.contents file)
    c.in-Ok.made.items c.as_slice.result.now c.as_slice.ensures.value c.in-Ok.ensures.made holds) c.write_new.ensures.written

pub returns-in-Ok-clause-tells : goal.returns-in-Ok-clause-tells
returns-in-Ok-clause-tells g c =
    IfErr-weaker c.write_new.result _ _ (λ refused cut.
    cut_off_tells (g.C.Creates.may_fail c.args.files.now c.args.output.now) g.C.Creates.is_new g.C.Created.Write.contents sink_inner sink_failures c.as_slice.result.now refused.error refused.file cut
    (g.P.Probe.may_find c.args.probe.now) (plan_model c.args.plan.now) (g.S.Store.contents c.args.store.now)) c.write_new.ensures.err

pub returns-in-Ok-clause-cause : goal.returns-in-Ok-clause-cause
returns-in-Ok-clause-cause g c =
    IfErr-weaker c.write_new.result _ _ (λ refused cut.
    cut_off_cause (HasReadCause g.S.Store.may_fail_read (g.S.Store.contents c.args.store.now) (g.S.Store.failed c.args.store.now) _) (g.C.Creates.may_fail c.args.files.now c.args.output.now) g.C.Creates.is_new g.C.Created.Write.contents sink_inner sink_failures
    (g.P.Probe.may_find c.args.probe.now) (plan_model c.args.plan.now) (g.S.Store.contents c.args.store.now) c.in-Ok.made.items c.as_slice.result.now refused.error refused.file
    c.as_slice.ensures.value c.in-Ok.ensures.made cut) c.write_new.ensures.err
