use Rattle.elf_write_spec.proofs.NamesFound.{written_files_find_names}
use Rattle.elf_write_spec.proofs.laws.written_files_find_names.Goals as goal

pub returns : goal.returns
returns c = written_files_find_names
