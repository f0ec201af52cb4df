-- The symbol is there with its number, and the table tells its name.
use Rattle.std.proofs.Common.{List, sym, subst}
use Rattle.elf_format.specs.Views.{NamedSymbol}
use Rattle.elf_image.specs.ImageModel.{section_model}
use Rattle.elf_image_symbols.specs.Loan.{numbers_now, symbols_now}
use Rattle.elf_write_symbol_tables.specs.NamePlaces.{TellsNames}
use Rattle.elf_write_symbol_tables.proofs.RecordsGiven.{static_told_at, static_within}
use Rattle.elf_write_symbol_tables.proofs.statics.told_record.Goals as goal

pub told_place-place-requires-clause-named : goal.told_place-place-requires-clause-named
told_place-place-requires-clause-named c =
    subst (λ (l : List NamedSymbol). TellsNames c.args.made.now.table l) (sym c.symbols-symbols.ensures.symbols) c.requires.named

pub record_at-requires-clause-within : goal.record_at-requires-clause-within
record_at-requires-clause-within c =
    static_within c.args.read.now c.args.image.now c.requires.ready (section_model c.args.section.now) c.requires.at
    (numbers_now c.symbols-symbols.result) c.symbols-symbols.ensures.numbers c.args.i c.read_number-number.result c.read_number-number.ensures

pub returns : goal.returns
returns c =
    static_told_at c.args.read.now c.args.image.now c.requires.ready (section_model c.args.section.now) c.requires.at
    (numbers_now c.symbols-symbols.result) c.symbols-symbols.ensures.numbers c.args.i c.read_number-number.result c.read_number-number.ensures
    c.args.made.now c.requires.told c.requires.named (symbols_now c.symbols-symbols.result) c.symbols-symbols.ensures.symbols
    c.told_place-place.result c.record_at.result c.told_place-place.ensures c.record_at.ensures.record c.record_at.ensures.fits
