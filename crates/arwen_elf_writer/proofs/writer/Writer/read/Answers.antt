-- An image that is read shows both views of its file.
use Rattle.elf_format.proofs.ImageShows.{images_show}
use Rattle.arwen_elf_writer.proofs.writer.Writer.read.Goals as goal

pub returns-clause-shows : goal.returns-clause-shows
returns-clause-shows c =
    let image = c.in_ok-builder.builder in
    (images_show.by_sections c.args.bytes.now image c.in_ok-builder.ensures, images_show.by_loader c.args.bytes.now image c.in_ok-builder.ensures)
