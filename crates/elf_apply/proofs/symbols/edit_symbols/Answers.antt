use Rattle.elf_symbol_edits.specs.EditModel.{edit_model}
use Rattle.elf_apply.proofs.SymbolLaws.{made_is, shows_is}
use Rattle.elf_apply.proofs.symbols.edit_symbols.Goals as goal

pub returns-in-Ok : goal.returns-in-Ok
returns-in-Ok c =
    let edit = edit_model c.args.edit in
    let old = c.args.builder.now in (
      made_is edit old c.make.new.image c.in-Ok.field-0 c.in-Ok.ensures.made,
      shows_is c.symbol_edits_show.ensures edit old c.make.new.image c.in-Ok.field-0 c.source-source.ensures.edited c.in-Ok.ensures.made,
    )
