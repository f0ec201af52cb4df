use Rattle.elf_write_spec.proofs.SymbolsKept.{written_files_keep_symbols}
use Rattle.elf_write_spec.proofs.laws.written_files_keep_symbols.Goals as goal

pub returns : goal.returns
returns c = written_files_keep_symbols
