use Rattle.elf_write_spec.proofs.DataSeen.{written_files_keep_data}
use Rattle.elf_write_spec.proofs.laws.written_files_keep_data.Goals as goal

pub returns : goal.returns
returns c = written_files_keep_data
