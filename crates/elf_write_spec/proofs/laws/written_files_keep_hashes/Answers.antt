use Rattle.elf_write_spec.proofs.DataSeen.{written_files_keep_hashes}
use Rattle.elf_write_spec.proofs.laws.written_files_keep_hashes.Goals as goal

pub returns : goal.returns
returns c = written_files_keep_hashes
