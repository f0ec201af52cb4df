-- What the program headers show, then what the dynamic segment shows.
use Rattle.std.proofs.Common.{sym, ap, ◌∙◌, subst}
use Rattle.std.proofs.lemmas.Result.{err_from_is_err_and}
use Rattle.std.specs.Prelude.{option_map}
use Rattle.elf_format.specs.Answers.{Gives, borrowed}
use Rattle.elf_format.specs.Seen.{flags_of_stack, opened_model}
use Rattle.test_elf_plain.specs.PlainViews.{view_model}
use Rattle.test_elf_plain.proofs.LoadedSteps.{loader_fails_interpreter, loader_fails_open, loader_fails_segments, loader_sees}
use Rattle.test_elf_plain.proofs.loaded.loader_view.Goals as goal

pub returns-in_err-form : goal.returns-in_err-form
returns-in_err-form c =
    let p = err_from_is_err_and c.from_residual.result c.from_residual.ensures.1 in
    rw (p.1, p.2) (loader_fails_open c.args.file.now c.args.symbol_count c.in_err-form.field-0.0 c.in_err-form.ensures.shown)

pub returns-in_err-segments : goal.returns-in_err-segments
returns-in_err-segments c =
    let p = err_from_is_err_and c.from_residual-in_err-segments.result c.from_residual-in_err-segments.ensures.1 in
    rw (p.1, p.2) (loader_fails_segments c.args.file.now c.args.symbol_count c.in_err-segments.field-0.0 (opened_model c.args.file.now (c.in_ok-form.form, c.in_ok-form.header)) c.in_ok-form.ensures.shown c.in_err-segments.ensures)

pub returns-in_err-loaded_interpreter : goal.returns-in_err-loaded_interpreter
returns-in_err-loaded_interpreter c =
    let p = err_from_is_err_and c.from_residual-in_err-loaded_interpreter.result c.from_residual-in_err-loaded_interpreter.ensures.1 in
    rw (p.1, p.2) (loader_fails_interpreter c.args.file.now c.args.symbol_count c.in_err-loaded_interpreter.field-0.0 (opened_model c.args.file.now (c.in_ok-form.form, c.in_ok-form.header))
    c.in_ok-segments.segments.items c.deref-2.result.now c.in_ok-form.ensures.shown c.in_ok-segments.ensures c.deref-2.ensures.value c.in_err-loaded_interpreter.ensures.shown)

pub returns : goal.returns
returns c =
    subst (Gives view_model c.show_loaded.result)
    (sym (loader_sees c.args.file.now c.args.symbol_count (opened_model c.args.file.now (c.in_ok-form.form, c.in_ok-form.header)) c.in_ok-segments.segments.items
    c.in_ok-form.ensures.shown c.in_ok-segments.ensures
    c.stack_flags.result (c.stack_flags.ensures ∙ ap flags_of_stack c.deref.ensures.value)
    c.deref-2.result.now c.deref-2.ensures.value
    (option_map borrowed c.in_ok-loaded_interpreter.field-0) c.in_ok-loaded_interpreter.ensures.shown
    c.deref-3.result.now c.deref-3.ensures.value))
    c.show_loaded.ensures
