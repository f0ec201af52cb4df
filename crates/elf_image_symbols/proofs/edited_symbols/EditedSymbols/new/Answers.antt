-- Without changes all are as they were read.
use Rattle.elf_image_symbols.proofs.EditedLaws.{read_shown}
use Rattle.elf_image_symbols.proofs.edited_symbols.EditedSymbols.new.Goals as goal

pub returns-clause-made : goal.returns-clause-made
returns-clause-made c = read_shown c.args.table c.in_ok-changes.changes.items c.in_ok-changes.ensures.items
