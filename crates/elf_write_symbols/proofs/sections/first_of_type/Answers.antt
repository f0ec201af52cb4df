-- Each section has a number, by which it isn't found.
use Rattle.std.proofs.Common.{ap, sym, ◌∙◌}
use Rattle.std.specs.Prelude.{◌==◌, find}
use Rattle.elf_format.specs.Image.{Image}
use Rattle.elf_write_symbols.proofs.ListSteps.{section-kept}
use Rattle.elf_write_symbols.proofs.sections.first_of_type.Goals as goal

pub returns : goal.returns
returns c =
    let image : Image = c.args.image.now in
    c.find_type.ensures ∙ ap (find (λ s. s.sh_type == c.args.kind)) c.sections.ensures
    ∙ sym (section-kept (λ s. s.sh_type == c.args.kind) 0 image.section_numbers image.sections c.source-source.ensures.edited.is_edit.sections.numbered)
