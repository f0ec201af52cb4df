-- The symbol is there with its number, and the table tells its name.
use Rattle.std.proofs.Common.{List, sym, subst}
use Rattle.elf_format.specs.Views.{NamedSymbol}
use Rattle.elf_image.specs.ImageModel.{section_model}
use Rattle.elf_image_symbols.specs.Loan.{numbers_now, symbols_now}
use Rattle.elf_write_symbol_tables.specs.NamePlaces.{TellsNames}
use Rattle.elf_write_symbol_tables.proofs.RecordsGiven.{dynamic_told_at, dynamic_within}
use Rattle.elf_write_symbol_tables.proofs.dynamic.told_record.Goals as goal

pub told_place-place-requires-clause-named : goal.told_place-place-requires-clause-named
told_place-place-requires-clause-named c =
    subst (λ (l : List NamedSymbol). TellsNames c.args.made.now.table l) (sym c.dynamic_symbols-symbols.ensures.symbols) c.requires.named

pub record_at-requires-clause-within : goal.record_at-requires-clause-within
record_at-requires-clause-within c =
    dynamic_within c.args.read.now c.args.image.now c.requires.ready (section_model c.args.section.now) c.requires.at
    (numbers_now c.dynamic_symbols-symbols.result) c.dynamic_symbols-symbols.ensures.numbers c.order_of-at.result c.read_number-number.result
    c.read_number-number.ensures

pub returns : goal.returns
returns c =
    dynamic_told_at c.args.read.now c.args.image.now c.requires.ready (section_model c.args.section.now) c.requires.at
    (numbers_now c.dynamic_symbols-symbols.result) c.dynamic_symbols-symbols.ensures.numbers c.order_of-at.result c.read_number-number.result
    c.read_number-number.ensures c.args.made.now c.requires.told (symbols_now c.dynamic_symbols-symbols.result)
    c.dynamic_symbols-symbols.ensures.symbols c.args.i c.told_place-place.result c.record_at.result c.order_of-at.ensures.place
    c.record_at.ensures.record c.record_at.ensures.fits c.requires.named c.told_place-place.ensures
