-- The bytes of the image that is lent are those of the writer's.
use Rattle.std.proofs.Common.{List, ℕ, ◌∙◌, ap, subst, sym}
use Rattle.elf_image.specs.Image.{Image}
use Rattle.patch_bytes.specs.ByteString.{StringValue}
use Rattle.arwen_elf_writer.specs.Written.{IsImageWritten}
use Rattle.arwen_elf_writer.proofs.WrittenLaws.{edit_refused, edit_written, source_written}
use Rattle.arwen_elf_writer.proofs.writer.Writer.output_bytes.Goals as goal

pub returns-then-not-changed-clause-bytes : goal.returns-then-not-changed-clause-bytes
returns-then-not-changed-clause-bytes c =
    let lent : Image = c.builder-image.result.now in
    let are = ap (λ (v : StringValue). v.bytes) c.borrowed.ensures ∙ c.source.ensures.source in
    source_written lent c.args.self.now c.builder-image.ensures c.borrowed.result.bytes (sym c.changed.ensures ∙ c.if-not-changed.true) are

pub returns-in-Ok-clause-bytes : goal.returns-in-Ok-clause-bytes
returns-in-Ok-clause-bytes c =
    let lent : Image = c.builder-image.result.now in
    let image : Image = c.args.self.now in
    let edited = sym c.changed.ensures ∙ c.if-not-changed.false in
    let written = edit_written lent image c.builder-image.ensures c.in-Ok.bytes.items edited c.in-Ok.ensures.bytes in
    subst (λ (l : List ℕ). IsImageWritten image l) (sym (ap (λ (v : StringValue). v.bytes) c.owned.ensures)) written

pub returns-in-Err-clause-fault : goal.returns-in-Err-clause-fault
returns-in-Err-clause-fault c =
    let lent : Image = c.builder-image.result.now in
    let edited = sym c.changed.ensures ∙ c.if-not-changed.false in
    edit_refused lent c.args.self.now c.in-Err.fault c.elf_error_of.result c.builder-image.ensures edited c.in-Err.ensures.fault c.elf_error_of.ensures

pub returns-in-Err-clause-edited : goal.returns-in-Err-clause-edited
returns-in-Err-clause-edited c =
    sym (ap (λ (i : Image). i.changed) c.builder-image.ensures) ∙ sym c.changed.ensures ∙ c.if-not-changed.false
