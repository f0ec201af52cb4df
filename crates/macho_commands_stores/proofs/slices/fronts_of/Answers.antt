use Rattle.std.proofs.Common.{arith, sym, ◌∙◌}
use Rattle.std.proofs.lemmas.Result.{err_from_is_err_and}
use Rattle.macho_commands_stores.proofs.SliceLaws.{fronts_more, later, pushed}
use Rattle.macho_commands_stores.proofs.slices.fronts_of.Goals as goal

pub returns-in_err-front-clause-cause : goal.returns-in_err-front-clause-cause
returns-in_err-front-clause-cause g c =
    let p = err_from_is_err_and c.from_residual.result c.from_residual.ensures.1 in
    rw (p.1, p.2) (later g.S.Store.may_fail_read _ _ _ _ _ _ c.loop-arch.invariant.kept c.loop-arch.invariant.grows c.in_err-front.ensures.cause)

pub loop-arch-preserved : goal.loop-arch-preserved
loop-arch-preserved g c =
    let front = rw c.in-Some.is at c.in_ok-front.ensures.front in
    record {
      fronts = fronts_more _ _ c.args.archs.now c.loop-arch.fronts.items c.push.new.self.items c.loop-arch.arch-index _ c.in-Some.front (omega arith) c.loop-arch.invariant.kept (pushed c.push.result _ c.loop-arch.fronts.items c.push.new.self.items c.push.ensures.items (sym c.is_err.ensures.value ∙ c.if-is_err.false)) c.loop-arch.invariant.fronts front;
      kept = c.in_ok-front.ensures.kept ∙ c.loop-arch.invariant.kept;
      grows = omega (arith, c.in_ok-front.ensures.grows);
    }
