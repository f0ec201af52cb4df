-- The symbol is there with its number, and with the name that it had at read.
use Rattle.elf_image.specs.ImageModel.{section_model}
use Rattle.elf_image_symbols.specs.Loan.{numbers_now}
use Rattle.elf_write_symbol_tables.proofs.RecordsGiven.{static_named_at, static_within}
use Rattle.elf_write_symbol_tables.proofs.statics.record_as_named.Goals as goal

pub record_staying-requires-clause-within : goal.record_staying-requires-clause-within
record_staying-requires-clause-within c =
    static_within c.args.read.now c.args.image.now c.requires.ready (section_model c.args.section.now) c.requires.at
    (numbers_now c.symbols.result) c.symbols.ensures.numbers c.args.i c.read_number-number.result c.read_number-number.ensures

pub returns : goal.returns
returns c =
    static_named_at c.args.read.now c.args.image.now c.requires.ready (section_model c.args.section.now) c.requires.at
    (numbers_now c.symbols.result) c.symbols.ensures.numbers c.args.i c.read_number-number.result c.read_number-number.ensures
    c.requires.same c.record_staying.result c.record_staying.ensures.record c.record_staying.ensures.fits
