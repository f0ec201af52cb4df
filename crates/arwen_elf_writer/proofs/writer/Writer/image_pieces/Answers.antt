-- What differs of the image that is lent differs of the writer's.
use Rattle.std.proofs.Common.{List, ℕ, ◌≡◌, ◌∙◌, ap, subst, sym}
use Rattle.byte_store.specs.Composed.{IsDifference, made_of}
use Rattle.elf_image.specs.Image.{Image}
use Rattle.arwen_elf_writer.specs.Written.{IsImageWritten, IsNoDifference}
use Rattle.arwen_elf_writer.proofs.WrittenLaws.{edit_refused, edit_written, no_source, source_written}
use Rattle.arwen_elf_writer.proofs.writer.Writer.image_pieces.Goals as goal

pub returns-then-not-changed : goal.returns-then-not-changed
returns-then-not-changed c =
    let lent : Image = c.builder-image.result.now in
    let image : Image = c.args.self.now in
    let d = c.no_difference.result in
    let same : lent ≡ image = c.builder-image.ensures in
    let unedited = sym c.changed.ensures ∙ c.if-not-changed.true in
    let source : lent.source ≡ image.source = ap (λ (i : Image). i.source) same in
    let read : c.source.result.now ≡ image.source = c.source.ensures.source ∙ source in
    let kept = subst (λ (l : List ℕ). made_of l d ≡ l) read c.no_difference.ensures.same in
    record {
      makeable = subst (λ (l : List ℕ). IsDifference l d) read c.no_difference.ensures.makeable;
      bytes = source_written lent image same (made_of image.source d) unedited (kept ∙ sym source);
      fault = tt;
      unchanged = λ _. subst (λ (l : List ℕ). IsNoDifference l d) read c.no_difference.ensures.none;
    }

pub returns-in-Ok : goal.returns-in-Ok
returns-in-Ok c =
    let lent : Image = c.builder-image.result.now in
    let image : Image = c.args.self.now in
    let d = c.in-Ok.difference in
    let same : lent ≡ image = c.builder-image.ensures in
    let edited = sym c.changed.ensures ∙ c.if-not-changed.false in
    let source : lent.source ≡ image.source = ap (λ (i : Image). i.source) same in
    record {
      makeable = subst (λ (l : List ℕ). IsDifference l d) source c.in-Ok.ensures.makeable;
      bytes = subst (λ (l : List ℕ). IsImageWritten image (made_of l d)) source (edit_written lent image same (made_of lent.source d) edited c.in-Ok.ensures.bytes);
      fault = tt;
      unchanged = λ unedited. no_source lent image same edited unedited;
    }

pub returns-in-Err : goal.returns-in-Err
returns-in-Err c =
    let lent : Image = c.builder-image.result.now in
    let image : Image = c.args.self.now in
    let same : lent ≡ image = c.builder-image.ensures in
    let edited = sym c.changed.ensures ∙ c.if-not-changed.false in
    record {
      makeable = tt;
      bytes = tt;
      fault = edit_refused lent image c.in-Err.fault c.elf_error_of.result same edited c.in-Err.ensures.fault c.elf_error_of.ensures;
      unchanged = λ unedited. no_source lent image same edited unedited;
    }
