-- The number of a section that is there.
use Rattle.std.proofs.Common.{arith}
use Rattle.elf_format.specs.Image.{Image}
use Rattle.elf_write_symbol_tables.proofs.ForCallers.ReadyFacts.{facts}
use Rattle.elf_write_symbol_tables.proofs.ForCallers.SectionFacts.{new_fits}
use Rattle.elf_write_contents.proofs.headers.names_number.Goals as goal

pub overflow_cast-result : goal.overflow_cast-result
overflow_cast-result c =
    let read : Image = c.args.read.now in
    let image : Image = c.args.image.now in
    omega (
      arith,
      c.new_number.ensures,
      c.from.ensures,
      new_fits read image (facts read image c.requires.ready) c.from.result (omega arith),
    )
