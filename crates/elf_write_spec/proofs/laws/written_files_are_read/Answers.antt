use Rattle.elf_write_spec.proofs.FilesReadBack.{written_files_are_read}
use Rattle.elf_write_spec.proofs.laws.written_files_are_read.Goals as goal

pub returns : goal.returns
returns c = written_files_are_read
