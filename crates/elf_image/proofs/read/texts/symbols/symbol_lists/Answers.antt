-- Both lists of symbols, or none where a name isn't there.
use Rattle.std.proofs.Common.{sym, ◌∙◌}
use Rattle.elf_image_versions.specs.Read.{parts_model}
use Rattle.elf_image.proofs.SymbolLists.{lists_missing, lists_missing_dynamic, lists_there}
use Rattle.elf_image.proofs.read.texts.symbols.symbol_lists.Goals as goal

pub returns-in_err-symbols : goal.returns-in_err-symbols
returns-in_err-symbols c = c.from_residual.ensures ∙ sym (lists_missing (parts_model c.args.parts.now) (sym c.static_symbols.ensures ∙ c.in_err-symbols.was))

pub returns-in_err-dynamic_symbols : goal.returns-in_err-dynamic_symbols
returns-in_err-dynamic_symbols c =
    c.from_residual-in_err-dynamic_symbols.ensures
    ∙ sym (lists_missing_dynamic (parts_model c.args.parts.now) c.in_ok-symbols.symbols (sym c.static_symbols.ensures ∙ c.in_ok-symbols.was)
    (sym c.dynamic_symbols.ensures ∙ c.in_err-dynamic_symbols.was))

pub returns : goal.returns
returns c =
    sym (lists_there (parts_model c.args.parts.now) c.in_ok-symbols.symbols c.in_ok-dynamic_symbols.dynamic_symbols (sym c.static_symbols.ensures ∙ c.in_ok-symbols.was)
    (sym c.dynamic_symbols.ensures ∙ c.in_ok-dynamic_symbols.was))
