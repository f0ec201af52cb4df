-- The symbols are those of the image.
use Rattle.std.proofs.Common.{◌≡◌, ◌∙◌, []}
use Rattle.elf_edits.specs.TextModel.{texts_model}
use Rattle.elf_edits.specs.Texts.{is_among}
use Rattle.elf_format.specs.Image.{Image}
use Rattle.elf_image_symbols.specs.Loan.{numbers_now, symbols_now}
use Rattle.elf_symbol_edits.specs.Named.{named_dynamic_symbols, symbol_name}
use Rattle.elf_symbol_edits.specs.SymbolEdit.{DeleteDynamicSymbols}
use Rattle.elf_symbol_edits.proofs.DeletionSteps.{deletion_same, is_deletion, passing_of, rising_dynamic_symbols}
use Rattle.elf_symbol_edits.proofs.deletion.Deletion.of_dynamic_symbols.Goals as goal

pub returns : goal.returns
returns c =
    let image : Image = c.args.image.now in
    let found : c.in_ok-dynamic_symbols.dynamic_symbols.items ≡ named_dynamic_symbols (texts_model c.args.names.now) image =
    c.in_ok-dynamic_symbols.ensures
    ∙ passing_of (λ y. is_among (texts_model c.args.names.now) (symbol_name y)) (numbers_now c.dynamic_symbols.result) image.dynamic_symbol_numbers (symbols_now c.dynamic_symbols.result) image.dynamic_symbols c.dynamic_symbols.ensures.numbers c.dynamic_symbols.ensures.symbols in
    is_deletion (DeleteDynamicSymbols (texts_model c.args.names.now)) image _
    (deletion_same c.new.result.items c.in_ok-dynamic_symbols.dynamic_symbols.items c.new-2.result.items [] (named_dynamic_symbols (texts_model c.args.names.now) image) [] c.new.ensures.items found c.new-2.ensures.items)
    (rising_dynamic_symbols image c.source-source.ensures.edited (texts_model c.args.names.now))
