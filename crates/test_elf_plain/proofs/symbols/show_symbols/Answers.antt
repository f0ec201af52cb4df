-- Bytes, names and versions of all symbols.
use Rattle.std.proofs.Common.{◌*◌, Some, map, sym, ap, ◌∙◌, arith}
use Rattle.std.proofs.lemmas.Result.{err_from_is_err_and}
use Rattle.elf_format.specs.Views.{named_symbols}
use Rattle.test_elf_plain.proofs.SymbolSteps.{bytes_at-length, symbols_fail_bytes, symbols_fail_ids, symbols_fail_names, symbols_shown}
use Rattle.test_elf_plain.specs.PlainViews.{source_model, text_model}
use Rattle.test_elf_plain.proofs.symbols.show_symbols.Goals as goal

pub returns-in_err-all : goal.returns-in_err-all
returns-in_err-all c =
    let p = err_from_is_err_and c.from_residual.result c.from_residual.ensures.1 in
    rw (p.1, p.2) (symbols_fail_bytes c.args.form c.args.room c.args.with_versions (source_model c.args.table.now.bytes) (source_model c.args.table.now.texts) (source_model c.args.versions.now) c.args.table.now.count c.symbol_size-size.result c.symbol_size-size.ensures.value
    c.in_err-all.field-0.0 c.in_err-all.ensures)

pub read_records-requires : goal.read_records-requires
read_records-requires c = omega (arith, c.deref.ensures.value, bytes_at-length (c.args.table.now.count * c.symbol_size-size.result) (source_model c.args.table.now.bytes) 0 c.in_ok-all.all.items c.in_ok-all.ensures)

pub returns-in_err-names : goal.returns-in_err-names
returns-in_err-names c =
    let p = err_from_is_err_and c.from_residual-in_err-names.result c.from_residual-in_err-names.ensures.1 in
    rw (p.1, p.2) (symbols_fail_names c.args.form c.args.room c.args.with_versions (source_model c.args.table.now.bytes) (source_model c.args.table.now.texts) (source_model c.args.versions.now) c.args.table.now.count c.symbol_size-size.result c.symbol_size-size.ensures.value
    c.in_err-names.field-0.0 c.deref.result.now c.deref-2.result.now (c.in_ok-all.ensures ∙ ap Some (sym c.deref.ensures.value)) (c.deref-2.ensures.value ∙ c.in_ok-symbols.ensures) c.in_err-names.ensures)

pub returns-in_err-ids : goal.returns-in_err-ids
returns-in_err-ids c =
    let p = err_from_is_err_and c.from_residual-in_err-ids.result c.from_residual-in_err-ids.ensures.1 in
    rw (p.1, p.2) (symbols_fail_ids c.args.form c.args.room c.args.with_versions (source_model c.args.table.now.bytes) (source_model c.args.table.now.texts) (source_model c.args.versions.now) c.args.table.now.count c.symbol_size-size.result c.symbol_size-size.ensures.value
    c.in_err-ids.field-0.0 c.deref.result.now c.deref-2.result.now (map text_model c.in_ok-names.names.items) (c.in_ok-all.ensures ∙ ap Some (sym c.deref.ensures.value)) (c.deref-2.ensures.value ∙ c.in_ok-symbols.ensures) c.in_ok-names.ensures c.in_err-ids.ensures)

pub returns : goal.returns
returns c =
    let shown = symbols_shown c.args.form c.args.room c.args.with_versions (source_model c.args.table.now.bytes) (source_model c.args.table.now.texts) (source_model c.args.versions.now) c.args.table.now.count c.symbol_size-size.result c.symbol_size-size.ensures.value
    c.deref.result.now c.deref-2.result.now (map text_model c.in_ok-names.names.items) c.in_ok-ids.ids.items (c.in_ok-all.ensures ∙ ap Some (sym c.deref.ensures.value)) (c.deref-2.ensures.value ∙ c.in_ok-symbols.ensures) c.in_ok-names.ensures c.in_ok-ids.ensures in
    shown
    ∙ ap (λ l. Some (named_symbols l (map text_model c.in_ok-names.names.items) c.in_ok-ids.ids.items)) (c.deref-2.ensures.value ∙ sym c.deref-3.ensures.value)
    ∙ ap (λ l. Some (named_symbols c.deref-3.result.now (map text_model l) c.in_ok-ids.ids.items)) (sym c.deref-4.ensures.value)
    ∙ ap (λ l. Some (named_symbols c.deref-3.result.now (map text_model c.deref-4.result.now) l)) (sym c.deref-5.ensures.value)
    ∙ ap Some (sym c.in_ok-join_symbols.ensures)
