-- One record of the chain after another.
use Rattle.std.proofs.Common.{◌+◌, ◌-◌, true, inl, ap, ◌∙◌, arith}
use Rattle.std.proofs.lemmas.Result.{err_from_is_err_and}
use Rattle.elf_format.specs.Answers.{chain}
use Rattle.elf_format.proofs.ChainSteps.{chain_broken, chain_done, chain_ends, chain_goes, more_left, next_of}
use Rattle.elf_format.proofs.ReadingSteps.{with_front}
use Rattle.test_elf_plain.specs.PlainViews.{source_model}
use Rattle.test_elf_plain.proofs.chains.read_chain.Goals as goal

pub returns-in_err-value : goal.returns-in_err-value
returns-in_err-value g c =
    let p = err_from_is_err_and c.from_residual.result c.from_residual.ensures.1 in
    let read = g.T.Chained.step c.args.form (source_model c.args.source.now) in
    rw (p.1, p.2) (chain_ends read c.in_err-value.field-0.0 c.loop-i.made.items c.args.count c.loop-i.i c.loop-i.place (chain read c.args.count c.args.start) c.loop-i-test.true c.in_err-value.ensures c.loop-i.invariant.made)

pub returns-in_err-place : goal.returns-in_err-place
returns-in_err-place g c =
    let p = err_from_is_err_and c.from_residual-in_err-place.result c.from_residual-in_err-place.ensures.1 in
    let read = g.T.Chained.step c.args.form (source_model c.args.source.now) in
    rw (p.1, p.2, c.in_err-place.ensures.0)
    (chain_broken read c.loop-i.made.items c.args.count c.loop-i.i c.loop-i.place (record { value = c.in_ok-value.value; is_whole = true; next = c.in_ok-value.next }) (chain read c.args.count c.args.start) c.loop-i-test.true c.in_ok-value.ensures
    (more_left c.args.count c.loop-i.i c.loop-i-test.true c.in_err-place.ensures.1) (inl c.in_err-place.ensures.2) c.loop-i.invariant.made)

pub loop-i-preserved : goal.loop-i-preserved
loop-i-preserved g c =
    let read = g.T.Chained.step c.args.form (source_model c.args.source.now) in
    record {
      made = ap (λ m. with_front m (chain read (c.args.count - (c.loop-i.i + 1)) c.in_ok-place.place)) c.in_ok-push.ensures.items
          ∙ chain_goes read c.loop-i.made.items c.args.count c.loop-i.i c.loop-i.place c.in_ok-place.place (record { value = c.in_ok-value.value; is_whole = true; next = c.in_ok-value.next }) (chain read c.args.count c.args.start) c.loop-i-test.true c.in_ok-value.ensures
          (next_of c.args.count c.loop-i.i c.in_ok-value.next c.loop-i.place c.in_ok-place.place c.in_ok-place.ensures.0) c.loop-i.invariant.made;
      near = omega arith;
    }

pub returns : goal.returns
returns g c =
    let read = g.T.Chained.step c.args.form (source_model c.args.source.now) in
    chain_done read c.loop-i.made.items c.args.count c.loop-i.i c.loop-i.place (chain read c.args.count c.args.start) c.loop-i-test.false c.loop-i.invariant.made
