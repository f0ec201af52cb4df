use Rattle.elf_write_strings.proofs.NamesLeft.{kept_left}
use Rattle.elf_write_strings.proofs.left.are_static_names_left.Goals as goal

pub returns-then-keeps_static_symbols : goal.returns-then-keeps_static_symbols
returns-then-keeps_static_symbols c =
    kept_left c.args.read.now c.args.image.now c.requires c.keeps_static_symbols.result c.keeps_static_symbols.ensures c.if-keeps_static_symbols.true
