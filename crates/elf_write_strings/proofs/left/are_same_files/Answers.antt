use Rattle.elf_write_strings.proofs.FilesLeft.{files_apart}
use Rattle.elf_write_strings.proofs.left.are_same_files.Goals as goal

pub returns-then-read-now : goal.returns-then-read-now
returns-then-read-now c = files_apart c.args.read.now c.args.now.now c.if-read-now.true
