-- The law is proved of the definitions.
use Rattle.elf_tables.proofs.TableBack.{tables_are_read_back}
use Rattle.elf_tables.proofs.laws.tables_are_read_back.Goals as goal

pub returns : goal.returns
returns c = tables_are_read_back
