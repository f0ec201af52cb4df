use Rattle.std.proofs.Common.{◌∙◌, ap, arith, length}
use Rattle.std.proofs.lemmas.List.{length-drop, take_rest}
use Rattle.std.proofs.lemmas.Result.{err_from_is_err_and}
use Rattle.byte_store.proofs.CauseLaws.{ended_later}
use Rattle.byte_store.proofs.RunLaws.{first_put, more_put}
use Rattle.byte_store.proofs.writing.put_all.Goals as goal

pub returns-in_err-done-clause-err : goal.returns-in_err-done-clause-err
returns-in_err-done-clause-err g c =
    let p = err_from_is_err_and c.from_residual.result c.from_residual.ensures.1 in
    rw p.1 (first_put c.args.offset c.loop-done.done c.args.part.now _ _ _ c.loop-done.invariant.within c.loop-done.invariant.written c.in_err-done.ensures.err)

pub loop-done-preserved : goal.loop-done-preserved
loop-done-preserved g c = record {
  opened = c.in_ok-done.ensures.open ∙ c.loop-done.invariant.opened;
  counted = omega (arith, c.in_ok-done.ensures.count, c.in_ok-done.ensures.interruptions, c.loop-done.invariant.counted);
  within = omega (arith, c.in_ok-done.ensures.count, ap length (take_rest c.args.part.now c.loop-done.done), length-drop c.loop-done.done c.args.part.now);
  written = more_put c.args.offset c.loop-done.done c.in_ok-done.field-0 c.args.part.now _ _ _ _ (take_rest c.args.part.now c.loop-done.done) c.loop-done.invariant.within c.loop-done.invariant.written c.in_ok-done.ensures.ok;
  idle = λ none. absurd (omega (arith, c.in_ok-done.ensures.count));
}

pub returns-in_err-done-clause-cause : goal.returns-in_err-done-clause-cause
returns-in_err-done-clause-cause g c =
    let p = err_from_is_err_and c.from_residual.result c.from_residual.ensures.1 in
    rw (p.1, p.2) (ended_later g.S.Store.may_fail_write g.S.Store.may_take_none _ _ _ _ c.loop-done.invariant.counted.0 c.in_err-done.ensures.cause)
