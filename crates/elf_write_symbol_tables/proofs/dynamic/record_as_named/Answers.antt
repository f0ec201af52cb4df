-- The symbol has its number and its name.
use Rattle.elf_image.specs.ImageModel.{section_model}
use Rattle.elf_write_symbol_tables.proofs.RecordsGiven.{dynamic_named_at, staying_within}
use Rattle.elf_write_symbol_tables.proofs.dynamic.record_as_named.Goals as goal

pub record_staying-requires-clause-within : goal.record_staying-requires-clause-within
record_staying-requires-clause-within c =
    staying_within c.args.read.now c.args.image.now c.requires.ready (section_model c.args.section.now) c.requires.at c.requires.same c.args.i
    c.requires.inside

pub returns : goal.returns
returns c =
    dynamic_named_at c.args.read.now c.args.image.now c.requires.ready (section_model c.args.section.now) c.requires.at c.requires.same c.args.i
    c.requires.inside c.record_staying.result c.record_staying.ensures.record c.record_staying.ensures.fits
