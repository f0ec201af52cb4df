-- A record is whole where its chain is there.
use Rattle.std.proofs.Common.{Some, ap, sym, ◌∙◌}
use Rattle.std.proofs.lemmas.Result.{err_from_is_err_and}
use Rattle.elf_format.proofs.ChainSteps.{definition_fails, definition_fails_names, definition_read}
use Rattle.test_elf_plain.specs.PlainViews.{source_model}
use Rattle.test_elf_plain.proofs.chains.RawDefinitionChained.read.Goals as goal

pub returns-in_err-copied : goal.returns-in_err-copied
returns-in_err-copied c =
    let p = err_from_is_err_and c.from_residual.result c.from_residual.ensures.1 in
    rw (p.1, p.2) (definition_fails c.args.form (source_model c.args.source.now) c.args.place c.in_err-copied.field-0.0 c.in_err-copied.ensures)

pub returns-in_err-names : goal.returns-in_err-names
returns-in_err-names c =
    let p = err_from_is_err_and c.from_residual-in_err-names.result c.from_residual-in_err-names.ensures.1 in
    rw (p.1, p.2) (definition_fails_names c.args.form (source_model c.args.source.now) c.args.place c.in_err-names.field-0.0 c.as_slice-record.result.now c.half_at-count.result c.word_at-distance.result
    (c.in_ok-copied.ensures ∙ ap Some (sym c.as_slice-record.ensures.value)) c.half_at-count.ensures c.word_at-distance.ensures c.in_err-names.ensures)

pub returns : goal.returns
returns c =
    definition_read c.args.form (source_model c.args.source.now) c.args.place c.as_slice-record.result.now c.in_ok-names.names.items c.half_at-count.result c.word_at-distance.result c.half_at.result c.half_at-2.result c.word_at.result
    (c.in_ok-copied.ensures ∙ ap Some (sym c.as_slice-record.ensures.value)) c.half_at-count.ensures c.word_at-distance.ensures c.in_ok-names.ensures c.half_at.ensures c.half_at-2.ensures c.word_at.ensures
