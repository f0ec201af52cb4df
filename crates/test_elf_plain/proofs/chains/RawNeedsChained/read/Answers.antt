-- A record is whole where its chain is there.
use Rattle.std.proofs.Common.{Some, ap, sym, ◌∙◌}
use Rattle.std.proofs.lemmas.Result.{err_from_is_err_and}
use Rattle.elf_format.proofs.ChainSteps.{need_fails, need_fails_names, need_read}
use Rattle.test_elf_plain.specs.PlainViews.{source_model}
use Rattle.test_elf_plain.proofs.chains.RawNeedsChained.read.Goals as goal

pub returns-in_err-copied : goal.returns-in_err-copied
returns-in_err-copied c =
    let p = err_from_is_err_and c.from_residual.result c.from_residual.ensures.1 in
    rw (p.1, p.2) (need_fails c.args.form (source_model c.args.source.now) c.args.place c.in_err-copied.field-0.0 c.in_err-copied.ensures)

pub returns-in_err-versions : goal.returns-in_err-versions
returns-in_err-versions c =
    let p = err_from_is_err_and c.from_residual-in_err-versions.result c.from_residual-in_err-versions.ensures.1 in
    rw (p.1, p.2) (need_fails_names c.args.form (source_model c.args.source.now) c.args.place c.in_err-versions.field-0.0 c.as_slice-record.result.now c.half_at-count.result c.word_at-distance.result
    (c.in_ok-copied.ensures ∙ ap Some (sym c.as_slice-record.ensures.value)) c.half_at-count.ensures c.word_at-distance.ensures c.in_err-versions.ensures)

pub returns : goal.returns
returns c =
    need_read c.args.form (source_model c.args.source.now) c.args.place c.as_slice-record.result.now c.in_ok-versions.versions.items c.half_at-count.result c.word_at-distance.result c.word_at.result c.word_at-2.result
    (c.in_ok-copied.ensures ∙ ap Some (sym c.as_slice-record.ensures.value)) c.half_at-count.ensures c.word_at-distance.ensures c.in_ok-versions.ensures c.word_at.ensures c.word_at-2.ensures
