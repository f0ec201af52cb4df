use Rattle.elf_image.specs.ImageModel.{section_model}
use Rattle.elf_write_symbol_tables.proofs.SymbolsStay.{static_copied, told_copied}
use Rattle.elf_write_symbol_tables.proofs.statics.is_copied.Goals as goal

pub returns-in-Some : goal.returns-in-Some
returns-in-Some c =
    told_copied c.args.read.now c.args.image.now c.requires.ready c.args.made.now c.requires.strings (section_model c.args.section.now)
    c.in-Some.table.now c.in-Some.ensures.some

pub returns-in-None : goal.returns-in-None
returns-in-None c =
    static_copied c.args.read.now c.args.image.now c.requires.ready c.args.made.now c.requires.strings (section_model c.args.section.now) c.requires.at
    c.in-None.ensures.none
