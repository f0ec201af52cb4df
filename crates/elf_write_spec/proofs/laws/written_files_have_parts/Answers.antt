use Rattle.elf_write_spec.proofs.FileParts.{written_files_have_parts}
use Rattle.elf_write_spec.proofs.laws.written_files_have_parts.Goals as goal

pub returns : goal.returns
returns c = written_files_have_parts
