-- Without versions none is read; with them one for each symbol.
use Rattle.std.proofs.Common.{◌*◌, Some, sym, ap, ◌∙◌, arith}
use Rattle.std.proofs.lemmas.Result.{err_from_is_err_and}
use Rattle.test_elf_plain.proofs.SymbolSteps.{bytes_at-length, versions_fail, versions_shown, versions_without}
use Rattle.test_elf_plain.specs.PlainViews.{source_model}
use Rattle.test_elf_plain.proofs.symbols.versions_of.Goals as goal

pub returns-then-not-with_versions : goal.returns-then-not-with_versions
returns-then-not-with_versions c =
    versions_without c.args.form c.args.count (source_model c.args.versions.now) c.args.with_versions c.if-not-with_versions.true ∙ ap Some (sym c.in_ok-no_versions.ensures)

pub returns-in_err-all : goal.returns-in_err-all
returns-in_err-all c =
    let p = err_from_is_err_and c.from_residual-in_err-all.result c.from_residual-in_err-all.ensures.1 in
    rw (p.1, p.2) (versions_fail c.args.form c.args.count (source_model c.args.versions.now) c.in_err-all.field-0.0 c.args.with_versions c.if-not-with_versions.false c.in_err-all.ensures)

pub read_records-requires : goal.read_records-requires
read_records-requires c = omega (arith, c.deref.ensures.value, bytes_at-length (c.args.count * 2) (source_model c.args.versions.now) 0 c.in_ok-all.all.items c.in_ok-all.ensures)

pub returns : goal.returns
returns c =
    versions_shown c.args.form c.args.count (source_model c.args.versions.now) c.args.with_versions c.deref.result.now c.if-not-with_versions.false (c.in_ok-all.ensures ∙ ap Some (sym c.deref.ensures.value)) ∙ ap Some (sym c.in_ok-read_records.ensures)
