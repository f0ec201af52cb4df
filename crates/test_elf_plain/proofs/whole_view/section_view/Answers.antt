-- What the headers show, then what the dynamic section shows.
use Rattle.std.proofs.Common.{sym, ap, ◌∙◌, subst}
use Rattle.std.proofs.lemmas.Result.{err_from_is_err_and}
use Rattle.std.specs.Prelude.{option_map}
use Rattle.elf_format.specs.Answers.{Gives, borrowed}
use Rattle.elf_format.specs.Seen.{bytes_of_interpreter, flags_of_stack, opened_model}
use Rattle.test_elf_plain.specs.PlainViews.{view_model}
use Rattle.elf_format.proofs.SectionViewSteps.{fails_open, fails_segments, fails_sections, seen_from}
use Rattle.test_elf_plain.proofs.whole_view.section_view.Goals as goal

pub returns-in_err-form : goal.returns-in_err-form
returns-in_err-form c =
    let p = err_from_is_err_and c.from_residual.result c.from_residual.ensures.1 in
    rw (p.1, p.2) (fails_open c.args.file.now c.in_err-form.field-0.0 c.in_err-form.ensures.shown)

pub returns-in_err-segments : goal.returns-in_err-segments
returns-in_err-segments c =
    let p = err_from_is_err_and c.from_residual-in_err-segments.result c.from_residual-in_err-segments.ensures.1 in
    rw (p.1, p.2) (fails_segments c.args.file.now c.in_err-segments.field-0.0 (opened_model c.args.file.now (c.in_ok-form.form, c.in_ok-form.header)) c.in_ok-form.ensures.shown c.in_err-segments.ensures)

pub returns-in_err-sections : goal.returns-in_err-sections
returns-in_err-sections c =
    let p = err_from_is_err_and c.from_residual-in_err-sections.result c.from_residual-in_err-sections.ensures.1 in
    rw (p.1, p.2) (fails_sections c.args.file.now c.in_err-sections.field-0.0 (opened_model c.args.file.now (c.in_ok-form.form, c.in_ok-form.header)) c.in_ok-segments.segments.items c.in_ok-form.ensures.shown c.in_ok-segments.ensures c.in_err-sections.ensures)

pub returns : goal.returns
returns c =
    let interpreter = c.interpreter.ensures
    ∙ ap (λ l. bytes_of_interpreter c.args.file.now l c.deref-3.result.now) c.deref-2.ensures.value
    ∙ ap (bytes_of_interpreter c.args.file.now c.in_ok-segments.segments.items) c.deref-3.ensures.value in
    subst (Gives view_model c.show_dynamic.result)
    (sym (seen_from c.args.file.now (opened_model c.args.file.now (c.in_ok-form.form, c.in_ok-form.header)) c.in_ok-segments.segments.items c.in_ok-sections.sections.items
    c.in_ok-form.ensures.shown c.in_ok-segments.ensures c.in_ok-sections.ensures
    c.stack_flags.result (c.stack_flags.ensures ∙ ap flags_of_stack c.deref.ensures.value)
    (option_map borrowed c.interpreter.result) interpreter
    c.deref-4.result.now c.deref-4.ensures.value))
    c.show_dynamic.ensures
