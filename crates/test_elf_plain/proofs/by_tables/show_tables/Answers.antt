-- The entries, then each table that the list names.
use Rattle.std.proofs.Common.{map}
use Rattle.std.specs.Prelude.{option_map}
use Rattle.std.proofs.lemmas.Result.{err_from_is_err_and}
use Rattle.test_elf_plain.specs.PlainViews.{definition_model, entry_viewed, needs_model, outline_model, symbol_model, tables_model}
use Rattle.test_elf_plain.proofs.ViewSteps.{view_fails_definitions, view_fails_entries, view_fails_needs, view_fails_symbols, view_shown}
use Rattle.test_elf_plain.proofs.by_tables.show_tables.Goals as goal

pub returns-in_err-entries : goal.returns-in_err-entries
returns-in_err-entries c =
    let p = err_from_is_err_and c.from_residual.result c.from_residual.ensures.1 in
    rw (p.1, p.2) (view_fails_entries c.args.form c.args.room (outline_model c.args.outline) c.args.raw.now (tables_model c.args.tables.now) c.in_err-entries.field-0.0 c.in_err-entries.ensures)

pub returns-in_err-symbols : goal.returns-in_err-symbols
returns-in_err-symbols c =
    let p = err_from_is_err_and c.from_residual-in_err-symbols.result c.from_residual-in_err-symbols.ensures.1 in
    rw (p.1, p.2) (view_fails_symbols c.args.form c.args.room (outline_model c.args.outline) c.args.raw.now (tables_model c.args.tables.now) c.in_err-symbols.field-0.0 (map entry_viewed c.in_ok-entries.entries.items) c.in_ok-entries.ensures c.in_err-symbols.ensures)

pub returns-in_err-definitions : goal.returns-in_err-definitions
returns-in_err-definitions c =
    let p = err_from_is_err_and c.from_residual-in_err-definitions.result c.from_residual-in_err-definitions.ensures.1 in
    rw (p.1, p.2) (view_fails_definitions c.args.form c.args.room (outline_model c.args.outline) c.args.raw.now (tables_model c.args.tables.now) c.in_err-definitions.field-0.0 (map entry_viewed c.in_ok-entries.entries.items) (option_map (λ v. map symbol_model v.items) c.in_ok-symbols.symbols) c.in_ok-entries.ensures c.in_ok-symbols.ensures c.in_err-definitions.ensures)

pub returns-in_err-needs : goal.returns-in_err-needs
returns-in_err-needs c =
    let p = err_from_is_err_and c.from_residual-in_err-needs.result c.from_residual-in_err-needs.ensures.1 in
    rw (p.1, p.2) (view_fails_needs c.args.form c.args.room (outline_model c.args.outline) c.args.raw.now (tables_model c.args.tables.now) c.in_err-needs.field-0.0 (map entry_viewed c.in_ok-entries.entries.items) (option_map (λ v. map symbol_model v.items) c.in_ok-symbols.symbols) (option_map (λ v. map definition_model v.items) c.in_ok-definitions.definitions) c.in_ok-entries.ensures c.in_ok-symbols.ensures c.in_ok-definitions.ensures c.in_err-needs.ensures)

pub returns : goal.returns
returns c = view_shown c.args.form c.args.room (outline_model c.args.outline) c.args.raw.now (tables_model c.args.tables.now) (map entry_viewed c.in_ok-entries.entries.items) (option_map (λ v. map symbol_model v.items) c.in_ok-symbols.symbols) (option_map (λ v. map definition_model v.items) c.in_ok-definitions.definitions) (option_map (λ v. map needs_model v.items) c.in_ok-needs.needs) c.in_ok-entries.ensures c.in_ok-symbols.ensures c.in_ok-definitions.ensures c.in_ok-needs.ensures
