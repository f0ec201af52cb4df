use Rattle.std.proofs.Common.{subst}
use Rattle.std.proofs.lemmas.Result.{IfOk-weaker}
use Rattle.elf_image.specs.Image.{Image}
use Rattle.elf_notes.specs.Notes.{AreLeft}
use Rattle.elf_commands.proofs.elf.noting.lines_for.Goals as goal

-- the notes are those of the edited image
pub returns : goal.returns
returns c =
    let notes = c.in_ok-notes.notes in
    let Of : Image → Type 0 = λ image. AreLeft image notes in
    let left = subst Of c.builder.ensures c.in_ok-notes.ensures.left in
    IfOk-weaker c.note_lines.result _ _ (λ text told. (notes, c.in_ok-notes.ensures.found, left, told)) c.note_lines.ensures
