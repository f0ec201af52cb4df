-- The symbols are those of the image.
use Rattle.std.proofs.Common.{◌≡◌, ◌∙◌, []}
use Rattle.elf_edits.specs.TextModel.{texts_model}
use Rattle.elf_edits.specs.Texts.{is_among}
use Rattle.elf_format.specs.Image.{Image}
use Rattle.elf_image_symbols.specs.Loan.{numbers_now, symbols_now}
use Rattle.elf_symbol_edits.specs.Named.{named_symbols, symbol_name}
use Rattle.elf_symbol_edits.specs.SymbolEdit.{DeleteSymbols}
use Rattle.elf_symbol_edits.proofs.DeletionSteps.{deletion_same, is_deletion, passing_of, rising_symbols}
use Rattle.elf_symbol_edits.proofs.deletion.Deletion.of_symbols.Goals as goal

pub returns : goal.returns
returns c =
    let image : Image = c.args.image.now in
    let found : c.in_ok-symbols.symbols.items ≡ named_symbols (texts_model c.args.names.now) image =
    c.in_ok-symbols.ensures
    ∙ passing_of (λ y. is_among (texts_model c.args.names.now) (symbol_name y)) (numbers_now c.symbols.result) image.symbol_numbers (symbols_now c.symbols.result) image.symbols c.symbols.ensures.numbers c.symbols.ensures.symbols in
    is_deletion (DeleteSymbols (texts_model c.args.names.now)) image _
    (deletion_same c.in_ok-symbols.symbols.items c.new.result.items c.new-2.result.items (named_symbols (texts_model c.args.names.now) image) [] [] found c.new.ensures.items c.new-2.ensures.items)
    (rising_symbols image c.source-source.ensures.edited (texts_model c.args.names.now))
