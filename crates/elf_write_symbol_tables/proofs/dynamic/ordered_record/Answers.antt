-- The symbol is there with its number, and its name has the next place in the order of the table.
use Rattle.elf_image.specs.ImageModel.{section_model}
use Rattle.elf_image_symbols.specs.Loan.{numbers_now, symbols_now}
use Rattle.elf_write_symbol_tables.proofs.RecordsGiven.{dynamic_ordered_at, dynamic_within}
use Rattle.elf_write_symbol_tables.proofs.dynamic.ordered_record.Goals as goal

pub record_at-requires-clause-within : goal.record_at-requires-clause-within
record_at-requires-clause-within c =
    dynamic_within c.args.read.now c.args.image.now c.requires.ready (section_model c.args.section.now) c.requires.at
    (numbers_now c.dynamic_symbols-symbols.result) c.dynamic_symbols-symbols.ensures.numbers c.order_of-at.result c.read_number-number.result
    c.read_number-number.ensures

pub returns : goal.returns
returns c =
    dynamic_ordered_at c.args.read.now c.args.image.now c.requires.ready (section_model c.args.section.now) c.requires.at
    (numbers_now c.dynamic_symbols-symbols.result) c.dynamic_symbols-symbols.ensures.numbers c.order_of-at.result c.read_number-number.result
    c.read_number-number.ensures c.args.made.now c.requires.told (symbols_now c.dynamic_symbols-symbols.result)
    c.dynamic_symbols-symbols.ensures.symbols c.args.i c.name_place-place.result c.record_at.result c.order_of-at.ensures.place
    c.record_at.ensures.record c.record_at.ensures.fits c.args.before c.args.begins c.in_order-places.result.now c.requires.named
    c.in_order-places.ensures c.requires.begins c.name_place-place.ensures
