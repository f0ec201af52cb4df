use Rattle.std.proofs.Common.{◌∙◌, length, sym}
use Rattle.std.proofs.lemmas.Bool.{eqb-true}
use Rattle.elf_image.specs.ImageModel.{section_model}
use Rattle.elf_write_symbol_tables.proofs.SymbolsStay.{all_kept, kept_sections, told_changed, told_kept}
use Rattle.elf_write_symbol_tables.proofs.statics.are_symbols_kept.Goals as goal

pub returns-then-not-keeps_static_symbols : goal.returns-then-not-keeps_static_symbols
returns-then-not-keeps_static_symbols c =
    told_changed c.args.read.now c.args.image.now c.requires.ready c.keeps_static_symbols.result c.keeps_static_symbols.ensures
    c.if-not-keeps_static_symbols.true

pub returns-then-are_sections_there : goal.returns-then-are_sections_there
returns-then-are_sections_there c =
    let read = c.args.read.now in
    let image = c.args.image.now in
    all_kept read image c.requires.ready (section_model c.args.section.now) c.requires.at
    (told_kept read image c.requires.ready c.keeps_static_symbols.result c.keeps_static_symbols.ensures c.if-not-keeps_static_symbols.false)
    (eqb-true (length image.sections) (length read.sections) (sym c.are_sections_there.ensures ∙ c.if-are_sections_there.true))

pub returns : goal.returns
returns c =
    let read = c.args.read.now in
    let image = c.args.image.now in
    c.are_sections_kept.ensures
    ∙ kept_sections read image
    (told_kept read image c.requires.ready c.keeps_static_symbols.result c.keeps_static_symbols.ensures c.if-not-keeps_static_symbols.false)
