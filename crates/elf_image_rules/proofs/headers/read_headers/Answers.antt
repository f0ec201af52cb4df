-- The tables are read by the header, and what is missing is the fault of the file.
use Rattle.std.proofs.lemmas.Result.{err_from_is_err_and}
use Rattle.elf_format.specs.File.{Opened}
use Rattle.elf_image_rules.specs.LinkSteps.{tables_model}
use Rattle.elf_format.specs.Seen.{opened_model}
use Rattle.elf_image_rules.proofs.LinkSteps.{opened_fails, tables_fail, tables_shown}
use Rattle.elf_image_rules.proofs.headers.read_headers.Goals as goal

pub returns-in_err-form : goal.returns-in_err-form
returns-in_err-form c =
    let p = err_from_is_err_and c.from_residual.result c.from_residual.ensures.1 in
    rw (p.1, p.2) (opened_fails c.in_err-form.field-0.0 c.args.file.now c.in_err-form.ensures)

pub returns-in-Ok : goal.returns-in-Ok
returns-in-Ok c =
    let o : Opened = opened_model c.args.file.now (c.in_ok-form.form, c.in_ok-form.header) in
    tables_shown c.args.file.now o (tables_model o (c.in-Ok.segments, c.in-Ok.sections)) c.in_ok-form.ensures c.in-Ok.ensures

pub returns-in-Err : goal.returns-in-Err
returns-in-Err c =
    let o : Opened = opened_model c.args.file.now (c.in_ok-form.form, c.in_ok-form.header) in
    rw c.truncated.ensures (tables_fail c.in-Err.fault c.args.file.now o c.in_ok-form.ensures c.in-Err.ensures)
