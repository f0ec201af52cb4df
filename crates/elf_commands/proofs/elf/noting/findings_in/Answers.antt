use Rattle.std.proofs.Common.{subst}
use Rattle.std.specs.Prelude.{IfOk}
use Rattle.elf_image.specs.Image.{Image}
use Rattle.elf_notes.specs.Notes.{AreFindings}
use Rattle.elf_commands_lines.specs.Groups.{edits_model}
use Rattle.elf_commands.proofs.elf.noting.findings_in.Goals as goal

-- the image is the container's
pub returns : goal.returns
returns c =
    let Of : Image → Type 0 = λ image. IfOk c.findings_of.result (AreFindings (edits_model c.args.edits.now) image) in
    subst Of c.builder.ensures c.findings_of.ensures
