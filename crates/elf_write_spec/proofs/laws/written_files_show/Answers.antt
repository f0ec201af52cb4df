use Rattle.elf_write_spec.proofs.FilesReadBack.{written_files_show}
use Rattle.elf_write_spec.proofs.laws.written_files_show.Goals as goal

pub returns : goal.returns
returns c = written_files_show
