-- An option is put behind those so far, or is the first whose value isn't read.
use Rattle.std.proofs.Common.{map}
use Rattle.std.proofs.lemmas.Result.{err_from_is_err_and}
use Rattle.arwen_cli_options.specs.Asked.{asked_model}
use Rattle.arwen_cli_patchelf_lines.proofs.ValueLaws.{all_put, one_more, one_past, one_refused}
use Rattle.arwen_cli_patchelf_lines.proofs.values.resolved.Goals as goal

pub loop-one-preserved : goal.loop-one-preserved
loop-one-preserved g c =
    let known = g.F.FileBytes.contents c.args.files.now in (
      one_more known c.args.shrinks c.args.given.now c.loop-one.one-index _ (map asked_model c.loop-one.asked.items) (map asked_model c.put_one.new.asked.items)
          c.loop-one-test.true c.loop-one.invariant.0 c.in_ok-put_one.ensures.ok,
      one_past known (g.F.FileBytes.may_fail c.args.files.now) c.args.shrinks c.args.given.now c.loop-one.one-index _ (map asked_model c.loop-one.asked.items) (map asked_model c.put_one.new.asked.items)
          c.loop-one-test.true c.loop-one.invariant.1 c.in_ok-put_one.ensures.ok,
    )

pub returns-clause-ok : goal.returns-clause-ok
returns-clause-ok g c = all_put (g.F.FileBytes.contents c.args.files.now) c.args.shrinks c.args.given.now c.loop-one.one-index (map asked_model c.loop-one.asked.items) c.loop-one-test.false c.loop-one.invariant.0

pub returns-in_err-put_one-clause-err : goal.returns-in_err-put_one-clause-err
returns-in_err-put_one-clause-err g c =
    let p = err_from_is_err_and c.from_residual.result c.from_residual.ensures.1 in
    rw (p.1, p.2) (one_refused (g.F.FileBytes.contents c.args.files.now) (g.F.FileBytes.may_fail c.args.files.now) c.args.shrinks c.args.given.now c.loop-one.one-index _ c.in_err-put_one.field-0.0
    c.loop-one-test.true c.loop-one.invariant.1 c.in_err-put_one.ensures.err)
