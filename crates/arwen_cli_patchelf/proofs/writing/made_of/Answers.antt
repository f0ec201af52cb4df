-- The store isn't read, or the plan isn't made of its bytes.
use Rattle.std.proofs.lemmas.Result.{IfErr-weaker, err_from_is_err_and}
use Rattle.arwen_cli_patchelf.specs.Plans.{plan_model}
use Rattle.arwen_cli_patchelf.proofs.OutputLaws.{unmade_cause, unread_cause}
use Rattle.arwen_cli_patchelf.proofs.writing.made_of.Goals as goal

pub returns-in_err-bytes-clause-cause : goal.returns-in_err-bytes-clause-cause
returns-in_err-bytes-clause-cause g c =
    let p = err_from_is_err_and c.from_residual.result c.from_residual.ensures.1 in
    rw (p.1, p.2) (unread_cause g.S.Store.may_fail_read (g.S.Store.contents c.args.store.now) _ _ c.in_err-bytes.field-0.0 c.in_err-bytes.ensures.cause)

pub returns-clause-cause : goal.returns-clause-cause
returns-clause-cause g c =
    IfErr-weaker c.made_whole.result _ _ (λ e tells.
    unmade_cause g.S.Store.may_fail_read (g.S.Store.contents c.args.store.now) _ _
    (g.P.Probe.may_find c.args.probe.now) (plan_model c.args.plan.now) c.in_ok-bytes.bytes.items e tells) c.made_whole.ensures.err
