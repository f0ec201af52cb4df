-- The bytes of the file that the value names are no text.
use Rattle.std.proofs.Common.{sym}
use Rattle.std.proofs.lemmas.Result.{err_from_is_err_and}
use Rattle.arwen_cli_options.specs.Options.{given_model}
use Rattle.arwen_cli_patchelf_lines.proofs.ValueLaws.{no_file, no_text}
use Rattle.arwen_cli_patchelf_lines.proofs.values.put_read.Goals as goal

pub returns-in_err-text-clause-err : goal.returns-in_err-text-clause-err
returns-in_err-text-clause-err g c =
    let p = err_from_is_err_and c.from_residual-in_err-text.result c.from_residual-in_err-text.ensures.1 in
    rw (p.1, p.2) (no_text (g.F.FileBytes.contents c.args.files.now) (g.F.FileBytes.may_fail c.args.files.now) (given_model c.args.one.now) c.in_ok-bytes.bytes.items c.in_err-text.field-0.0
    (rw (sym c.file_named.ensures) c.in_ok-bytes.ensures.read) c.in_err-text.ensures.err c.in_err-text.ensures.never)

pub returns-in_err-bytes-clause-err : goal.returns-in_err-bytes-clause-err
returns-in_err-bytes-clause-err g c =
    let p = err_from_is_err_and c.from_residual.result c.from_residual.ensures.1 in
    rw (p.1, p.2) (no_file (g.F.FileBytes.contents c.args.files.now) (g.F.FileBytes.may_fail c.args.files.now) (given_model c.args.one.now) c.in_err-bytes.field-0.0
    (rw (sym c.file_named.ensures) c.in_err-bytes.ensures.cause))
