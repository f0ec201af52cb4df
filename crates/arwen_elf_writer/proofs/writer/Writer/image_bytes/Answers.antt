-- The bytes of the image that is lent are those of the writer's.
use Rattle.std.proofs.Common.{◌≡◌, ◌∙◌, sym}
use Rattle.elf_image.specs.Image.{Image}
use Rattle.arwen_elf_writer.proofs.WrittenLaws.{edit_refused, edit_written}
use Rattle.arwen_elf_writer.proofs.writer.Writer.image_bytes.Goals as goal

pub returns-in-Ok : goal.returns-in-Ok
returns-in-Ok c =
    let lent : Image = c.builder-image.result.now in
    let image : Image = c.args.self.now in
    let same : lent ≡ image = c.builder-image.ensures in
    let edited = sym c.changed.ensures ∙ c.if-not-changed.false in
    record { bytes = edit_written lent image same c.in-Ok.bytes.items edited c.in-Ok.ensures.bytes; fault = tt }

pub returns-in-Err : goal.returns-in-Err
returns-in-Err c =
    let lent : Image = c.builder-image.result.now in
    let image : Image = c.args.self.now in
    let same : lent ≡ image = c.builder-image.ensures in
    let edited = sym c.changed.ensures ∙ c.if-not-changed.false in
    record {
      bytes = tt;
      fault = edit_refused lent image c.in-Err.fault c.elf_error_of.result same edited c.in-Err.ensures.fault c.elf_error_of.ensures;
    }
