use Rattle.elf_image_symbols.specs.Loan.{symbols_now}
use Rattle.elf_write_symbol_tables.proofs.SectionsKept.{kept_here}
use Rattle.elf_write_symbol_tables.proofs.statics.is_section_kept.Goals as goal

pub returns : goal.returns
returns c =
    kept_here c.args.image.now c.args.i (symbols_now c.symbols.result) c.numbers-number.result c.new_symbol_section.result c.symbols.ensures.symbols
    c.numbers-number.ensures c.new_symbol_section.ensures
