-- The renamed symbols may be put in place, since none of them went.
use Rattle.elf_edits.specs.TextModel.{pairs_model}
use Rattle.elf_symbol_edits.proofs.PutSteps.{renamed_done, renamed_put}
use Rattle.elf_symbol_edits.proofs.symbols.rename_symbols.Goals as goal

pub put_symbols-requires : goal.put_symbols-requires
put_symbols-requires c =
    renamed_put c.args.image.now (pairs_model c.args.pairs.now) c.edited_symbols.result.now c.in_ok-symbols.symbols c.source-source.ensures.edited c.edited_symbols.ensures.read c.edited_symbols.ensures.numbers c.in_ok-symbols.ensures

pub returns : goal.returns
returns c =
    renamed_done c.args.image.now c.put_symbols.new.image (pairs_model c.args.pairs.now) c.edited_symbols.result.now c.in_ok-symbols.symbols c.put_symbols.result c.edited_symbols.ensures.numbers c.edited_symbols.ensures.symbols
    c.in_ok-symbols.ensures c.put_symbols.ensures.told c.put_symbols.ensures.put
