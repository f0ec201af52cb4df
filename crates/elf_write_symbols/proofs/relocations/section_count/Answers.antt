-- As many sections are lent as the image has.
use Rattle.std.proofs.Common.{ap, sym, length, ◌∙◌}
use Rattle.std.proofs.lemmas.List.{length-map}
use Rattle.elf_format.specs.Image.{Image}
use Rattle.elf_image.specs.ImageModel.{section_model}
use Rattle.elf_write_spec.proofs.ForCallers.WholeEdits.{length-kept}
use Rattle.elf_write_symbols.proofs.ReadyFacts.{facts}
use Rattle.elf_write_symbols.proofs.relocations.section_count.Goals as goal

pub returns-clause-kept : goal.returns-clause-kept
returns-clause-kept c =
    let read : Image = c.args.read.now in
    let image : Image = c.args.image.now in
    sym (length-map c.sections.result.now section_model) ∙ ap length c.sections.ensures
    ∙ sym (length-kept read image (facts read image c.requires))

pub returns-clause-sections : goal.returns-clause-sections
returns-clause-sections c =
    sym (length-map c.sections.result.now section_model) ∙ ap length c.sections.ensures
